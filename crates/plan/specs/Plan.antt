-- Look-ups on the records of a plan. 004, 2.1: an automaton has states, an alphabet and a partial move by an event; chapter 2:
-- supervisors; 4.2: modules and disablings; document 01 gives the bytes.
use Rattle.std.specs.Prelude.{ℕ, List, Bool, cond, not, ◌&&◌, ◌||◌, eqb, ltb, Option, Some, None, is_some}
use Rattle.std.specs.Int.Count.{ones}
use Rattle.bits.specs.Bit.{bit, some_below, mask_of}
use Rattle.records.specs.Key.{key_by}
use Rattle.records.specs.Range.{in_range}
use Rattle.records.specs.declared.Record.{Record}
use Rattle.records.specs.declared.Record.TheVariants.{Head, Event, Module, ModuleMove, Supervisor, SupervisorMove, Disabling, Step, Marking, End}
use Rattle.reader.specs.Find.{find_in}
use Rattle.rules.specs.LookUp.{field3, word_field, field_of, modules_of, supervisors_of, events_of, module_in, supervisor_in, owner_of, controllable, alphabet_of}

-- the fourth field of a move: the state that it leads to
unfoldable pub field4 : Record → ℕ
field4 (Head m v e) = 0
field4 (Event n o c) = 0
field4 (Module n st i) = 0
field4 (ModuleMove m f e t) = t
field4 (Supervisor n st i a) = 0
field4 (SupervisorMove v f e t) = t
field4 (Disabling v st m) = 0
field4 (Step e i o x) = 0
field4 (Marking m st) = 0
field4 End = 0

-- where the found move leads, or nothing where none is listed
unfoldable pub target : Option Record → Option ℕ
target (Some r) = Some (field4 r)
target None = None

-- the listed moves of a module and of a supervisor
abbrev pub module_move : List Record → ℕ → ℕ → ℕ → Option ℕ
module_move rs m st e = target (find_in (key_by 0x13 m st e) rs)

abbrev pub supervisor_move : List Record → ℕ → ℕ → ℕ → Option ℕ
supervisor_move rs v st e = target (find_in (key_by 0x15 v st e) rs)

-- the state after a move, which stays where none is listed
unfoldable pub state_or : Option ℕ → ℕ → ℕ
state_or None st = st
state_or (Some t) st = t

-- a supervisor by its listed move
abbrev pub supervisor_moved : List Record → ℕ → ℕ → ℕ → ℕ
supervisor_moved rs v st e = state_or (supervisor_move rs v st e) st

-- initial states
abbrev pub module_initial : List Record → ℕ → ℕ
module_initial rs m = field_of field3 (module_in rs m)

abbrev pub supervisor_initial : List Record → ℕ → ℕ
supervisor_initial rs v = field_of field3 (supervisor_in rs v)

-- an event of a module, and of which class
abbrev pub own_event : List Record → ℕ → ℕ → Bool
own_event rs m e = ltb e (events_of rs) && eqb (owner_of rs e) m

abbrev pub own_uncontrollable : List Record → ℕ → ℕ → Bool
own_uncontrollable rs m e = own_event rs m e && not (controllable rs e)

-- document 01's term "shown": "Each supervisor shows the mask of its present state (0 if none)."
abbrev pub shown : List Record → ℕ → ℕ → ℕ
shown rs v st = field_of word_field (find_in (key_by 0x16 v st 0) rs)

abbrev pub in_alphabet : List Record → ℕ → ℕ → Bool
in_alphabet rs v e = bit (alphabet_of rs v) e

-- "Firing moves .. every supervisor with the event in its alphabet; a supervisor without a listed move stays."
unfoldable pub supervisor_after : List Record → ℕ → ℕ → ℕ → ℕ
supervisor_after rs v st e = cond (in_alphabet rs v e) (supervisor_moved rs v st e) st

-- the controllable events that have a move from a module's state; no event is numbered 64 or above
abbrev pub has_command : List Record → ℕ → ℕ → ℕ → Bool
has_command rs m st e = controllable rs e && is_some (module_move rs m st e)

abbrev pub commands : List Record → ℕ → ℕ → ℕ
commands rs m st = mask_of (has_command rs m st) 64

-- the same among a mask of moves
abbrev pub commands_among : List Record → ℕ → ℕ
commands_among rs moves = mask_of (λ e. bit moves e && controllable rs e) 64

-- document 01's term "neighbour": "A supervisor is a module's neighbour if its alphabet has an event of that module."
abbrev pub neighbour : List Record → ℕ → ℕ → Bool
neighbour rs m v = some_below (λ e. eqb (owner_of rs e) m && in_alphabet rs v e) (events_of rs)

-- the neighbour mask: bit v stands for supervisor v
abbrev pub neighbours : List Record → ℕ → ℕ
neighbours rs m = mask_of (λ v. ltb v (supervisors_of rs) && neighbour rs m v) 32

-- the modules of the plan whose neighbour a supervisor of the plan is: bit m stands for module m
abbrev pub modules_near : List Record → ℕ → ℕ
modules_near rs v = mask_of (λ m. ltb m (modules_of rs) && ltb v (supervisors_of rs) && neighbour rs m v) 16

-- document 01's count of neighbours: "The count of neighbours is the number of ones in the neighbour mask.", by that mask
abbrev pub neighbour_count : ℕ → ℕ
neighbour_count neighbour_mask = ones neighbour_mask

-- A step counts with its fields in range and, where it is a respond, with the number of an event. In an accepted plan every step does.
abbrev pub counts : Record → Bool
counts r = in_range r && (not (eqb (field3 r) 5) || ltb (word_field r) 64)

unfoldable pub counting : Option Record → Option Record
counting (Some r) = cond (counts r) (Some r) None
counting None = None

-- a step of an event's procedure
abbrev pub procedure_step : List Record → ℕ → ℕ → Option Record
procedure_step rs e i = counting (find_in (key_by 0x17 e i 0) rs)

abbrev pub operation_of : List Record → ℕ → ℕ → ℕ
operation_of rs e i = field_of field3 (procedure_step rs e i)

abbrev pub operand_of : List Record → ℕ → ℕ → ℕ
operand_of rs e i = field_of word_field (procedure_step rs e i)
