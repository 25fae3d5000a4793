-- Document 01, "Turns on one device": the state of the one-device controller, each module's own part and each supervisor's state.
use Rattle.std.specs.Prelude.{ℕ, zero, suc, List, Bool, cond, ◌&&◌, get_or, set, replicate, eqb, ltb, Option, Some, None}
use Rattle.std.specs.Int.Bits.{bit_or}
use Rattle.bits.specs.Bit.{all_below}
use Rattle.records.specs.declared.Record.{Record}
use Rattle.rules.specs.LookUp.{modules_of, supervisors_of, supervisor_state}
use Rattle.plan.specs.Plan.{supervisor_after, supervisor_initial, shown}
use Rattle.modules.specs.declared.Own.{Own}
use Rattle.modules.specs.Turn.{start_own, empty_own}
use Rattle.modules.specs.Fits.{own_fits, own_empty}
use Rattle.words.specs.Lists.{list_from}
use Rattle.device_states.specs.declared.Device.{Device}

abbrev pub own_at : Device → ℕ → Own
own_at d m = get_or d.modules m empty_own

abbrev pub state_of : List ℕ → ℕ → ℕ
state_of states v = get_or states v 0

abbrev pub state_at : Device → ℕ → ℕ
state_at d v = state_of d.supervisors v

-- document 01's term "fits", of one device: "A state fits when numbers are the plan's", and the clauses of each module's own part; slots that the plan
-- lacks hold 0
unfoldable pub own_slot_fits : List Record → Device → ℕ → Bool
own_slot_fits rs d m = cond (ltb m (modules_of rs)) (own_fits rs m (own_at d m)) (own_empty (own_at d m))

unfoldable pub state_slot_fits : List Record → List ℕ → ℕ → Bool
state_slot_fits rs states v = cond (ltb v (supervisors_of rs)) (supervisor_state rs v (state_of states v)) (eqb (state_of states v) 0)

unfoldable pub device_fits : List Record → Device → Bool
device_fits rs d = all_below (own_slot_fits rs d) 16 && all_below (state_slot_fits rs d.supervisors) 32

-- "Each supervisor shows the mask of its present state": the events in some shown mask of the first n supervisors
unfoldable pub shown_by : List Record → (ℕ → ℕ) → ℕ → ℕ
shown_by rs st zero = 0
shown_by rs st (suc n) = bit_or (shown_by rs st n) (shown rs n (st n))

-- "Firing moves the module and every supervisor with the event in its alphabet; a supervisor without a listed move stays."
unfoldable pub state_after_turn : List Record → ℕ → ℕ → Option ℕ → ℕ
state_after_turn rs v st (Some e) = supervisor_after rs v st e
state_after_turn rs v st None = st

abbrev pub states_after : List Record → List ℕ → Option ℕ → List ℕ
states_after rs states t = list_from (λ v. state_after_turn rs v (state_of states v) t) 0 32

abbrev pub with_own : Device → ℕ → Own → Device
with_own d m own = record { modules = set d.modules m own; supervisors = d.supervisors }

-- a refused start gives the all-zero state
abbrev pub empty_device : Device
empty_device = record { modules = replicate 16 empty_own; supervisors = replicate 32 0 }

-- "At the start all are in their initial states, .. procedures are idle and outputs off."
unfoldable pub start_slot : List Record → ℕ → Own
start_slot rs m = cond (ltb m (modules_of rs)) (start_own rs m) empty_own

unfoldable pub start_state : List Record → ℕ → ℕ
start_state rs v = cond (ltb v (supervisors_of rs)) (supervisor_initial rs v) 0

abbrev pub start_device : List Record → Device
start_device rs = record { modules = list_from (start_slot rs) 0 16; supervisors = list_from (start_state rs) 0 32 }
