-- What the rules of permits use of a plan, and what an accepted plan promises of it. Modules, supervisors, events and states are numbers. `Demand` of
-- crate agreement names the record `Plan`, by its `plan_of`; the laws are a step of its proof.
use Rattle.std.specs.Prelude.{ℕ, ◌^◌, ◌≤◌, ◌<◌, ◌≡◌, ◌⊎◌, Bool, true, false, Option, Some, None}
use Rattle.bits.specs.Bit.{bit}
use Rattle.water.specs.declared.Flow.{Flow}
use Rattle.modules.specs.declared.Own.{Own}
use Rattle.modules.specs.declared.Turned.{Turned}
use Rattle.modules.specs.declared.Replied.{Replied}

pub record Plan : Type 0 where
  -- "modules 1–16, supervisors 0–32, events 1–64"
  pub modules : ℕ
  pub supervisors : ℕ
  pub events : ℕ
  -- an event's module, and whether its class is controllable
  pub owner : ℕ → ℕ
  pub controllable : ℕ → Bool
  -- a module's initial state, and its move from a state by an event
  pub initial : ℕ → ℕ
  pub move : ℕ → ℕ → ℕ → Option ℕ
  -- a supervisor's initial state, its move, and whether its alphabet has an event
  pub supervisor_initial : ℕ → ℕ
  pub supervisor_move : ℕ → ℕ → ℕ → Option ℕ
  pub alphabet : ℕ → ℕ → Bool
  -- "Each supervisor shows the mask of its present state (0 if none)."
  pub shown : ℕ → ℕ → ℕ
  -- a module's turn over a mask; whether it has a wish; its own part at the start, after a response and after a tick
  pub turn : ℕ → ℕ → Own → Turned
  pub wish : ℕ → Own → Bool
  pub start : ℕ → Own
  pub respond : ℕ → Own → ℕ → Replied
  pub tick : ℕ → Own → Flow → Replied
  -- "A state fits when numbers are the plan's, .."
  pub fits : ℕ → Own → Bool
  pub supervisor_fits : ℕ → ℕ → Bool

-- what a turn of module m over the mask k may do to its own part o: fire a listed move, of an event that is uncontrollable or in no
-- mask, or leave the automaton's state
pub record Fired (P : Plan) (m k : ℕ) (o : Own) (e : ℕ) (o' : Own) : Type 0 where
  pub listed : P.move m o.state e ≡ Some o'.state
  pub free : (P.controllable e ≡ false) ⊎ (bit k e ≡ false)

abbrev pub TurnLaw : Plan → ℕ → ℕ → Own → Option ℕ → Own → Type 0
TurnLaw P m k o (Some e) o' = Fired P m k o e o'
TurnLaw P m k o None o' = o'.state ≡ o.state

-- the calls on an own part o of module m that fits
pub record OwnLaws (P : Plan) (m : ℕ) (o : Own) : Type 0 where
  pub turn_law : (k : ℕ) → TurnLaw P m k o (P.turn m k o).turn (P.turn m k o).own
  -- a turn looks at no bit but those of the module's own events
  pub turn_same : (k k' : ℕ) → ((e : ℕ) → P.owner e ≡ m → bit k e ≡ bit k' e) → P.turn m k o ≡ P.turn m k' o
  pub turn_fits : (k : ℕ) → P.fits m (P.turn m k o).own ≡ true
  pub respond_state : (e : ℕ) → (P.respond m o e).own.state ≡ o.state
  pub respond_fits : (e : ℕ) → P.fits m (P.respond m o e).own ≡ true
  pub tick_state : (r : Flow) → (P.tick m o r).own.state ≡ o.state
  pub tick_fits : (r : Flow) → P.fits m (P.tick m o r).own ≡ true

-- what an accepted plan gives
pub record Laws (P : Plan) : Type 0 where
  pub few_modules : P.modules ≤ 16
  pub few_supervisors : P.supervisors ≤ 32
  pub few_events : P.events ≤ 64
  pub owner_below : (e : ℕ) → e < P.events → P.owner e < P.modules
  -- a module moves by its own events
  pub move_event : (m x e y : ℕ) → P.move m x e ≡ Some y → e < P.events
  pub move_owner : (m x e y : ℕ) → P.move m x e ≡ Some y → P.owner e ≡ m
  pub alphabet_event : (s e : ℕ) → P.alphabet s e ≡ true → e < P.events
  pub alphabet_supervisor : (s e : ℕ) → P.alphabet s e ≡ true → s < P.supervisors
  -- a supervisor shows controllable events of its alphabet, in 64 bits
  pub shown_alphabet : (s x e : ℕ) → bit (P.shown s x) e ≡ true → P.alphabet s e ≡ true
  pub shown_controllable : (s x e : ℕ) → bit (P.shown s x) e ≡ true → P.controllable e ≡ true
  pub shown_below : (s x : ℕ) → P.shown s x < 2 ^ 64
  -- modules: the start, and the calls
  pub start_state_lem : (m : ℕ) → m < P.modules → (P.start m).state ≡ P.initial m
  pub start_fits : (m : ℕ) → m < P.modules → P.fits m (P.start m) ≡ true
  pub own_laws : (m : ℕ) (o : Own) → m < P.modules → P.fits m o ≡ true → OwnLaws P m o
  -- supervisors: the start, and the moves
  pub supervisor_start_lem : (s : ℕ) → s < P.supervisors → P.supervisor_fits s (P.supervisor_initial s) ≡ true
  pub supervisor_moves : (s x e y : ℕ) → P.supervisor_move s x e ≡ Some y → P.supervisor_fits s y ≡ true
