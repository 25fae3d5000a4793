-- The laws by which what stands above knows a turn, a response, a tick and the fit of a state, over the records rs of an accepted plan.
use Rattle.std.specs.Prelude.{ℕ, suc, ◌^◌, ◌≤◌, ◌<◌, ◌≡◌, ◌⊎◌, List, [], ◌∷◌, ◌++◌, Bool, true, false, cond, length, take, drop, set, ltb, Option, Some, None, is_some}
use Rattle.bits.specs.Bit.{bit}
use Rattle.records.specs.Key.{key_by}
use Rattle.records.specs.declared.Record.{Record}
use Rattle.reader.specs.Find.{find_in, found}
use Rattle.rules.specs.LookUp.{modules_of, supervisors_of, events_of, supervisor_state, owner_of, controllable}
use Rattle.plan.specs.Plan.{module_move, supervisor_move, module_initial, supervisor_initial, shown, in_alphabet, has_command, procedure_step, operation_of, operand_of}
use Rattle.accepted.specs.Plan.{ModuleMoveLaw, SupervisorMoveLaw, StepLaw}
use Rattle.litres.specs.Eighths.{count}
use Rattle.water.specs.declared.Flow.{Flow}
use Rattle.modules.specs.Queue.{queue_of, response_at, cells, with_queue, queued, without}
use Rattle.modules.specs.Procedure.{respond_of, tick_of}
use Rattle.modules.specs.Turn.{has_move, turn_of, start_own, enabled}
use Rattle.modules.specs.Fits.{own_fits}
use Rattle.modules.specs.declared.Own.{Own}
use Rattle.modules.specs.declared.Procedure.{Procedure}
use Rattle.modules.specs.declared.Turned.{Turned}

-- the own part fits, of a module that the plan has; nothing is asked of another
abbrev pub own_fits_at : List Record → ℕ → Own → Bool
own_fits_at rs m own = cond (ltb m (modules_of rs)) (own_fits rs m own) true

-- the same of a supervisor's state
abbrev pub state_fits_at : List Record → ℕ → ℕ → Bool
state_fits_at rs v st = cond (ltb v (supervisors_of rs)) (supervisor_state rs v st) true

-- the queue has eight cells, which is its array's length
abbrev pub EightCells : Own → Type 0
EightCells own = length own.queue ≡ 8

-- the event e fired: it has a move to the new state, and is uncontrollable or not in the mask k
pub record Fired (rs : List Record) (m k : ℕ) (own : Own) (e : ℕ) (after : Own) : Type 0 where
  pub moved : module_move rs m own.state e ≡ Some after.state
  pub free : (controllable rs e ≡ false) ⊎ (bit k e ≡ false)

-- what a turn did, and the own part after it: without a firing the state stays
abbrev pub Did : List Record → ℕ → ℕ → Own → Option ℕ → Own → Type 0
Did rs m k own (Some e) after = Fired rs m k own e after
Did rs m k own None after = after.state ≡ own.state

abbrev pub TurnOk : List Record → ℕ → ℕ → Own → Turned → Type 0
TurnOk rs m k own t = Did rs m k own t.turn t.own

-- the response e, from an index of the queue: the module has a move by none before it, the others remain in their order, and the procedure goes on
pub record Response (rs : List Record) (m : ℕ) (own : Own) (e : ℕ) (after : Own) : Type 0 where
  pub index : ℕ
  pub queued : index < length (queue_of own)
  pub is : response_at own index ≡ e
  pub unusable : (j : ℕ) → j < index → module_move rs m own.state (response_at own j) ≡ None
  pub others : queue_of after ≡ without index (queue_of own)
  pub procedure : after.procedure ≡ own.procedure

-- the command e: chosen where the module has a move by no queued response and the procedure is idle, the lowest of the enabled events
pub record Command (rs : List Record) (m k : ℕ) (own : Own) (e : ℕ) : Type 0 where
  pub unusable : (j : ℕ) → j < length (queue_of own) → module_move rs m own.state (response_at own j) ≡ None
  pub idle : own.procedure.running ≡ false
  pub able : enabled rs m k own.state e ≡ true
  pub lowest : (j : ℕ) → j < e → enabled rs m k own.state j ≡ false

-- the operation and the operand of the step at which a procedure runs
abbrev pub operation_at : List Record → Procedure → ℕ
operation_at rs p = operation_of rs p.event p.index

abbrev pub operand_at : List Record → Procedure → ℕ
operand_at rs p = operand_of rs p.event p.index

-- that step: what the plan asks of it, and that one tick more and one reading more have room
pub record AtStep (rs : List Record) (m : ℕ) (p : Procedure) : Type 0 where
  pub owner : owner_of rs p.event ≡ m
  pub step : StepLaw rs p.event p.index (operation_at rs p) (operand_at rs p)
  pub ticks : p.count < 65535
  pub eighths : operation_at rs p ≡ 4 → count p.water.total < 2 ^ 20

-- the sizes in an own part that fits
pub record Sizes (rs : List Record) (m : ℕ) (own : Own) : Type 0 where
  pub number : m < modules_of rs
  pub state : own.state < 32
  pub responses : own.length ≤ 8
  pub step : own.procedure.running ≡ true → AtStep rs m own.procedure

-- nothing but a response can move the module on: its procedure is at a respond step, or idle in a state without a controllable move
abbrev pub OnlyResponses : List Record → ℕ → Own → Type 0
OnlyResponses rs m own =
    ((own.procedure.running ≡ true) × (operation_at rs own.procedure ≡ 5))
    ⊎ ((own.procedure.running ≡ false) × ((e : ℕ) → has_command rs m own.state e ≡ false))

-- a halted module: its queue is full, it has a move by none of the responses there, and nothing but a response can move it on
pub record Halted (rs : List Record) (m : ℕ) (own : Own) : Type 0 where
  pub full : 8 ≤ own.length
  pub without_move : (j : ℕ) → j < length (queue_of own) → module_move rs m own.state (response_at own j) ≡ None
  pub only : OnlyResponses rs m own

pub record TurnLaws (rs : List Record) : Type 0 where
  -- ---- the plan
  -- the counts
  pub few_modules : modules_of rs ≤ 16
  pub few_supervisors : supervisors_of rs ≤ 32
  pub few_events : events_of rs ≤ 64
  -- a module moves by its own events
  pub own_move : (m x e y : ℕ) → module_move rs m x e ≡ Some y → owner_of rs e ≡ m
  -- no event is numbered 64 or above: that a response's event is below takes no listed move away
  pub has_move_lem : (m x e : ℕ) → has_move rs m x e ≡ is_some (module_move rs m x e)
  -- what a listed move names is in the plan
  pub module_move_lem : (m x e y : ℕ) → module_move rs m x e ≡ Some y → ModuleMoveLaw rs m x e y
  pub supervisor_move_lem : (v x e y : ℕ) → supervisor_move rs v x e ≡ Some y → SupervisorMoveLaw rs v x e y
  -- a shown mask has only controllable events of the supervisor's alphabet, and is of 64 bits
  pub shown_in_alphabet : (v x e : ℕ) → bit (shown rs v x) e ≡ true → in_alphabet rs v e ≡ true
  pub shown_controllable : (v x e : ℕ) → bit (shown rs v x) e ≡ true → controllable rs e ≡ true
  pub shown_small : (v x : ℕ) → shown rs v x < 2 ^ 64
  -- an alphabet is a supervisor's of the plan, with events of the plan
  pub alphabet_event : (v e : ℕ) → in_alphabet rs v e ≡ true → e < events_of rs
  pub alphabet_supervisor : (v e : ℕ) → in_alphabet rs v e ≡ true → v < supervisors_of rs
  -- the module of an event is in the plan
  pub event_owner : (e : ℕ) → e < events_of rs → owner_of rs e < modules_of rs
  -- a supervisor's state fits at the start and after a move
  pub supervisor_start_lem : (v : ℕ) → state_fits_at rs v (supervisor_initial rs v) ≡ true
  pub supervisor_moved : (v x e y : ℕ) → supervisor_move rs v x e ≡ Some y → state_fits_at rs v y ≡ true
  -- every listed step counts, and what is asked of one that is there
  pub step_listed : (e i : ℕ) → procedure_step rs e i ≡ find_in (key_by 0x17 e i 0) rs
  pub step_law : (e i : ℕ) → found (procedure_step rs e i) ≡ true → StepLaw rs e i (operation_of rs e i) (operand_of rs e i)
  -- ---- the start
  pub start_state_lem : (m : ℕ) → (start_own rs m).state ≡ module_initial rs m
  pub start_fits : (m : ℕ) → own_fits_at rs m (start_own rs m) ≡ true
  -- ---- a turn: what it does, that it goes by the mask's bits of the module's own events alone, and that it keeps what fits
  pub turn_ok : (m k : ℕ) (own : Own) → own_fits_at rs m own ≡ true → TurnOk rs m k own (turn_of rs m k own)
  pub turn_same : (m k k' : ℕ) (own : Own) → ((e : ℕ) → owner_of rs e ≡ m → bit k e ≡ bit k' e) → turn_of rs m k own ≡ turn_of rs m k' own
  pub turn_fits : (m k : ℕ) (own : Own) → own_fits_at rs m own ≡ true → own_fits_at rs m (turn_of rs m k own).own ≡ true
  -- "a turn takes the first queued response by which the module has a move, and the others remain in their order"
  pub response : (m k : ℕ) (own : Own) (e : ℕ) → (turn_of rs m k own).turn ≡ Some e → controllable rs e ≡ false → Response rs m own e (turn_of rs m k own).own
  -- "the lowest-numbered controllable event fires that has a move here and stands in no shown mask"
  pub command : (m k : ℕ) (own : Own) (e : ℕ) → own_fits_at rs m own ≡ true → (turn_of rs m k own).turn ≡ Some e → controllable rs e ≡ true → Command rs m k own e
  -- ---- a response and a tick leave the state, and keep what fits
  pub respond_state : (m e : ℕ) (own : Own) → (respond_of rs m e own).own.state ≡ own.state
  pub respond_fits : (m e : ℕ) (own : Own) → own_fits_at rs m own ≡ true → own_fits_at rs m (respond_of rs m e own).own ≡ true
  pub tick_state : (f : Flow) (own : Own) → (tick_of rs f own).own.state ≡ own.state
  pub tick_fits : (m : ℕ) (f : Flow) (own : Own) → own_fits_at rs m own ≡ true → own_fits_at rs m (tick_of rs f own).own ≡ true
  -- ---- what follows from "the others remain", 13 "response queue holds 8" and "Respond stays put while the queue is full.": no turn, response or
  -- tick changes a halted module
  pub halted_turn : (m k : ℕ) (own : Own) → Halted rs m own → turn_of rs m k own ≡ record { turn = None; own = own }
  pub halted_respond : (m e : ℕ) (own : Own) → Halted rs m own → (respond_of rs m e own).own ≡ own
  pub halted_tick : (m : ℕ) (f : Flow) (own : Own) → Halted rs m own → (tick_of rs f own).own ≡ own
  -- ---- sizes; a turn, a response and a tick keep the queue's eight cells
  pub sizes : (m : ℕ) (own : Own) → own_fits rs m own ≡ true → Sizes rs m own
  pub start_cells : (m : ℕ) → EightCells (start_own rs m)
  pub turn_cells : (m k : ℕ) (own : Own) → EightCells own → EightCells (turn_of rs m k own).own
  pub respond_cells : (m e : ℕ) (own : Own) → own.length ≤ 8 → EightCells own → EightCells (respond_of rs m e own).own
  pub tick_cells : (f : Flow) (own : Own) → own.length ≤ 8 → EightCells own → EightCells (tick_of rs f own).own
  -- ---- the queue by its cells: the responses and then zeros; one more stands in the cell after the last; one taken out, those after it
  -- move up and the cell that becomes free is 0
  pub queue_of_lem : (own : Own) (q : List ℕ) → queue_of (with_queue own q) ≡ q
  pub queue_length : (own : Own) → own.length ≤ 8 → EightCells own → length (queue_of own) ≡ own.length
  pub queue_cells : (m : ℕ) (own : Own) → own_fits rs m own ≡ true → EightCells own → own.queue ≡ cells (queue_of own)
  pub queued_last : (m e : ℕ) (own : Own) → own_fits rs m own ≡ true → EightCells own → own.length < 8 → (queued own e).queue ≡ set own.queue own.length e
  pub taken_out : (m i : ℕ) (own : Own) → own_fits rs m own ≡ true → EightCells own → i < own.length
      → cells (without i (queue_of own)) ≡ take i own.queue ++ drop (suc i) own.queue ++ (0 ∷ [])
