-- Document 01, "Numbers for what is turned down", 4 to 8: what each number asks of a record r, over the records rs before it, the latest
-- first. Number 5, the ranges, is `in_range` of the crate records. The "bytes after end" of number 4 are `end_at` of `Check.antt`.
use Rattle.std.specs.Prelude.{List, [], ◌∷◌, Bool, true, not, ◌&&◌, ◌||◌, eqb, ltb}
use Rattle.bits.specs.Bit.{bit, all_below, every_event}
use Rattle.records.specs.Kinds.{kind_of}
use Rattle.records.specs.Key.{key_of, precedes}
use Rattle.records.specs.declared.Record.{Record}
use Rattle.records.specs.declared.Record.TheVariants.{Head, Event, Module, ModuleMove, Supervisor, SupervisorMove, Disabling, Step, Marking, End}
use Rattle.rules.specs.LookUp.{modules_of, supervisors_of, events_of, event_declared, module_declared, supervisor_declared, module_state, supervisor_state, owner_of, controllable, alphabet_of, steps_of}

-- 4: "head not first, order or index rule broken". "Step indices of an event run 0, 1, 2 without a gap."
unfoldable pub index_runs : List Record → Record → Bool
index_runs rs (Head m v e) = true
index_runs rs (Event n o c) = true
index_runs rs (Module n st i) = true
index_runs rs (ModuleMove m f e t) = true
index_runs rs (Supervisor n st i a) = true
index_runs rs (SupervisorMove v f e t) = true
index_runs rs (Disabling v st m) = true
index_runs rs (Step e i o x) = eqb i (steps_of rs e)
index_runs rs (Marking m st) = true
index_runs rs End = true

-- "There is one head. Records ascend by kind, then strictly by key": so no second head can follow
unfoldable pub in_order : List Record → Record → Bool
in_order [] r = eqb (kind_of r) 0x10
in_order (p ∷ rs) r = precedes (key_of p) (key_of r) && index_runs (p ∷ rs) r

-- 6: "names an undeclared module, supervisor, event or state". "the number that a record of kind 11, 12 or 14 declares, and the module
-- in kind 11, need only be below the count. A mask bit at or above the event count is 6, as is a respond operand that is no declared
-- event." Document 02, 2.1: kind 18 names a "module, marked state"
unfoldable pub names_declared : List Record → Record → Bool
names_declared rs (Head m v e) = true
names_declared rs (Event n o c) = ltb n (events_of rs) && ltb o (modules_of rs)
names_declared rs (Module n st i) = ltb n (modules_of rs) && ltb i st
names_declared rs (ModuleMove m f e t) = module_declared rs m && module_state rs m f && event_declared rs e && module_state rs m t
names_declared rs (Supervisor n st i a) = ltb n (supervisors_of rs) && ltb i st && every_event a (event_declared rs)
names_declared rs (SupervisorMove v f e t) = supervisor_declared rs v && supervisor_state rs v f && event_declared rs e && supervisor_state rs v t
names_declared rs (Disabling v st m) = supervisor_declared rs v && supervisor_state rs v st && every_event m (event_declared rs)
names_declared rs (Step e i o x) = event_declared rs e && (not (eqb o 5) || event_declared rs x)
names_declared rs (Marking m st) = module_declared rs m && module_state rs m st
names_declared rs End = true

-- 7: "move by another module's event or one outside the alphabet; disabling mask with an event uncontrollable or outside the alphabet; a
-- step breaking the event rules above": "Only controllable events have steps"; "respond (an uncontrollable event of the same module)"
unfoldable pub keeps_rules : List Record → Record → Bool
keeps_rules rs (Head m v e) = true
keeps_rules rs (Event n o c) = true
keeps_rules rs (Module n st i) = true
keeps_rules rs (ModuleMove m f e t) = eqb (owner_of rs e) m
keeps_rules rs (Supervisor n st i a) = true
keeps_rules rs (SupervisorMove v f e t) = bit (alphabet_of rs v) e
keeps_rules rs (Disabling v st m) = every_event m (λ e. controllable rs e && bit (alphabet_of rs v) e)
keeps_rules rs (Step e i o x) = controllable rs e && (not (eqb o 5) || (not (controllable rs x) && eqb (owner_of rs x) (owner_of rs e)))
keeps_rules rs (Marking m st) = true
keeps_rules rs End = true

-- 8: "end reached, a number promised by the head undeclared"
unfoldable pub all_declared : List Record → Record → Bool
all_declared rs (Head m v e) = true
all_declared rs (Event n o c) = true
all_declared rs (Module n st i) = true
all_declared rs (ModuleMove m f e t) = true
all_declared rs (Supervisor n st i a) = true
all_declared rs (SupervisorMove v f e t) = true
all_declared rs (Disabling v st m) = true
all_declared rs (Step e i o x) = true
all_declared rs (Marking m st) = true
all_declared rs End = all_below (module_declared rs) (modules_of rs) && all_below (supervisor_declared rs) (supervisors_of rs) && all_below (event_declared rs) (events_of rs)
