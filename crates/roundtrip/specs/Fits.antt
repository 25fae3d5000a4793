-- The records that fields of one byte and of eight bytes can hold, and the lists that bytes are.
use Rattle.std.specs.Prelude.{ℕ, ◌^◌, ◌<◌, get_or}
use mathlib.Core.List.{List, Memᴰ}
use Rattle.records.specs.declared.Record.{Record}
use Rattle.records.specs.declared.Record.TheVariants.{Head, Event, Module, ModuleMove, Supervisor, SupervisorMove, Disabling, Step, Marking, End}

abbrev pub Byte : ℕ → Type 0
Byte b = b < 256

abbrev pub Word : ℕ → Type 0
Word x = x < 2 ^ 64

abbrev pub Fits : Record → Type 0
Fits (Head m v e) = Byte m × Byte v × Byte e
Fits (Event n o c) = Byte n × Byte o × Byte c
Fits (Module n st i) = Byte n × Byte st × Byte i
Fits (ModuleMove m f e t) = Byte m × Byte f × Byte e × Byte t
Fits (Supervisor n st i a) = Byte n × Byte st × Byte i × Word a
Fits (SupervisorMove v f e t) = Byte v × Byte f × Byte e × Byte t
Fits (Disabling v st m) = Byte v × Byte st × Word m
Fits (Step e i o x) = Byte e × Byte i × Byte o × Word x
Fits (Marking m st) = Byte m × Byte st
Fits End = Unit {0}

abbrev pub Bytes : List ℕ → Type 0
Bytes b = (j : ℕ) → Byte (get_or b j 0)

-- every record of a list fits the sizes of its fields
abbrev pub AllFit : List Record → Type 0
AllFit rs = (r : Record) → Memᴰ r rs → Fits r
