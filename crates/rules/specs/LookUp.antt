-- What records declare. Each look-up goes by kind and key over the records before the one that is judged, the latest first.
use Rattle.std.specs.Prelude.{ℕ, zero, suc, List, [], ◌∷◌, Bool, cond, ◌&&◌, eqb, ltb, Option, Some, None}
use Rattle.records.specs.Key.{key_by, head_key, key_of}
use Rattle.records.specs.declared.Record.{Record}
use Rattle.records.specs.declared.Record.TheVariants.{Head, Event, Module, ModuleMove, Supervisor, SupervisorMove, Disabling, Step, Marking, End}
use Rattle.reader.specs.Find.{find_in, found}

-- the first three one-byte fields of a record, and 0 where it has none
unfoldable pub field1 : Record → ℕ
field1 (Head m v e) = m
field1 (Event n o c) = n
field1 (Module n st i) = n
field1 (ModuleMove m f e t) = m
field1 (Supervisor n st i a) = n
field1 (SupervisorMove v f e t) = v
field1 (Disabling v st m) = v
field1 (Step e i o x) = e
field1 (Marking m st) = m
field1 End = 0

unfoldable pub field2 : Record → ℕ
field2 (Head m v e) = v
field2 (Event n o c) = o
field2 (Module n st i) = st
field2 (ModuleMove m f e t) = f
field2 (Supervisor n st i a) = st
field2 (SupervisorMove v f e t) = f
field2 (Disabling v st m) = st
field2 (Step e i o x) = i
field2 (Marking m st) = st
field2 End = 0

unfoldable pub field3 : Record → ℕ
field3 (Head m v e) = e
field3 (Event n o c) = c
field3 (Module n st i) = i
field3 (ModuleMove m f e t) = e
field3 (Supervisor n st i a) = i
field3 (SupervisorMove v f e t) = e
field3 (Disabling v st m) = 0
field3 (Step e i o x) = o
field3 (Marking m st) = 0
field3 End = 0

-- its 8-byte field, and 0 where it has none
unfoldable pub word_field : Record → ℕ
word_field (Head m v e) = 0
word_field (Event n o c) = 0
word_field (Module n st i) = 0
word_field (ModuleMove m f e t) = 0
word_field (Supervisor n st i a) = a
word_field (SupervisorMove v f e t) = 0
word_field (Disabling v st m) = m
word_field (Step e i o x) = x
word_field (Marking m st) = 0
word_field End = 0

-- a field of the record that a look-up found, and 0 if it found none
unfoldable pub field_of : (Record → ℕ) → Option Record → ℕ
field_of f (Some r) = f r
field_of f None = 0

-- the head's counts
abbrev pub modules_of : List Record → ℕ
modules_of rs = field_of field1 (find_in head_key rs)

abbrev pub supervisors_of : List Record → ℕ
supervisors_of rs = field_of field2 (find_in head_key rs)

abbrev pub events_of : List Record → ℕ
events_of rs = field_of field3 (find_in head_key rs)

-- the records of an event, a module and a supervisor
abbrev pub event_in : List Record → ℕ → Option Record
event_in rs e = find_in (key_by 0x11 e 0 0) rs

abbrev pub module_in : List Record → ℕ → Option Record
module_in rs m = find_in (key_by 0x12 m 0 0) rs

abbrev pub supervisor_in : List Record → ℕ → Option Record
supervisor_in rs v = find_in (key_by 0x14 v 0 0) rs

-- "Undeclared means not below the head's count, or without its record so far"
abbrev pub event_declared : List Record → ℕ → Bool
event_declared rs e = ltb e (events_of rs) && found (event_in rs e)

abbrev pub module_declared : List Record → ℕ → Bool
module_declared rs m = ltb m (modules_of rs) && found (module_in rs m)

abbrev pub supervisor_declared : List Record → ℕ → Bool
supervisor_declared rs v = ltb v (supervisors_of rs) && found (supervisor_in rs v)

-- "or, for a state, not below its owner's states"
abbrev pub module_state : List Record → ℕ → ℕ → Bool
module_state rs m st = ltb st (field_of field2 (module_in rs m))

abbrev pub supervisor_state : List Record → ℕ → ℕ → Bool
supervisor_state rs v st = ltb st (field_of field2 (supervisor_in rs v))

-- the module of an event, "class (0 uncontrollable, 1 controllable)", and a supervisor's alphabet
abbrev pub owner_of : List Record → ℕ → ℕ
owner_of rs e = field_of field2 (event_in rs e)

abbrev pub controllable : List Record → ℕ → Bool
controllable rs e = eqb (field_of field3 (event_in rs e)) 1

abbrev pub alphabet_of : List Record → ℕ → ℕ
alphabet_of rs v = field_of word_field (supervisor_in rs v)

-- how many steps of an event there are
unfoldable pub steps_of : List Record → ℕ → ℕ
steps_of [] e = zero
steps_of (r ∷ rs) e = cond (eqb (key_of r).kind 0x17 && eqb (key_of r).first e) (suc (steps_of rs e)) (steps_of rs e)
