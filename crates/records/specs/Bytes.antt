-- Document 01, "Plan records": the table of kinds. "Fields are one byte unless a size stands beside them."
use Rattle.std.specs.Prelude.{ℕ, List, [], ◌∷◌, ◌++◌}
use Rattle.words.specs.Word.{word_bytes}
use Rattle.records.specs.declared.Record.{Record}
use Rattle.records.specs.declared.Record.TheVariants.{Head, Event, Module, ModuleMove, Supervisor, SupervisorMove, Disabling, Step, Marking, End}

-- the bytes of a record: its kind, then its fields in the order of the table
unfoldable pub bytes_of : Record → List ℕ
bytes_of (Head m v e) = 0x10 ∷ m ∷ v ∷ e ∷ []
bytes_of (Event n o c) = 0x11 ∷ n ∷ o ∷ c ∷ []
bytes_of (Module n st i) = 0x12 ∷ n ∷ st ∷ i ∷ []
bytes_of (ModuleMove m f e t) = 0x13 ∷ m ∷ f ∷ e ∷ t ∷ []
bytes_of (Supervisor n st i a) = 0x14 ∷ n ∷ st ∷ i ∷ word_bytes a
bytes_of (SupervisorMove v f e t) = 0x15 ∷ v ∷ f ∷ e ∷ t ∷ []
bytes_of (Disabling v st m) = 0x16 ∷ v ∷ st ∷ word_bytes m
bytes_of (Step e i o x) = 0x17 ∷ e ∷ i ∷ o ∷ word_bytes x
bytes_of (Marking m st) = 0x18 ∷ m ∷ st ∷ []
bytes_of End = 0x1f ∷ []

-- the bytes of records, one after another
unfoldable pub bytes_of_all : List Record → List ℕ
bytes_of_all [] = []
bytes_of_all (r ∷ rs) = bytes_of r ++ bytes_of_all rs
