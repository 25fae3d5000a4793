-- Document 01, "Turns on one device" and "Permits and messages", over an abstract plan and without bytes: one rule for each change of state. These
-- are steps of a proof: what has to be read is `Demand` of crate agreement, which names of this file only `state_after`, by replay.
use Rattle.std.specs.Prelude.{ℕ, zero, suc, Bool, true, false, cond, not, ◌&&◌, ◌||◌, List, [], ◌∷◌, ◌++◌, eqb, Option, Some, None, unwrap_or, option_map, is_some}
use Rattle.std.specs.Int.Bits.{bit_or}
use Rattle.bits.specs.Bit.{bit, put_bit, least, module_after}
use Rattle.water.specs.declared.Flow.{Flow}
use Rattle.modules.specs.declared.Own.{Own}
use Rattle.modules.specs.declared.Turned.{Turned}
use Rattle.protocol.specs.Generic.{update, is_number}
use Rattle.protocol.specs.Plan.{Plan}

-- ---- one device: the modules' own parts, the supervisors' states
pub record OneDevice : Type 0 where
  pub owns : ℕ → Own
  pub states : ℕ → ℕ

-- "Firing moves the module and every supervisor with the event in its alphabet; a supervisor without a listed move stays."
unfoldable pub state_after : Plan → ℕ → ℕ → Option ℕ → ℕ
state_after P s x (Some e) = cond (P.alphabet s e) (unwrap_or (P.supervisor_move s x e) x) x
state_after P s x None = x

-- every mask shown by a supervisor below n, the states being x
unfoldable pub shown_below : Plan → (ℕ → ℕ) → ℕ → ℕ
shown_below P x zero = 0
shown_below P x (suc n) = bit_or (shown_below P x n) (P.shown n (x n))

-- "stands in no shown mask"
unfoldable pub device_turn : Plan → OneDevice → ℕ → Turned
device_turn P O m = P.turn m (shown_below P O.states P.supervisors) (O.owns m)

pub data DeviceAct : Type 0 where
  device_turns : ℕ → DeviceAct
  device_responds : ℕ → ℕ → DeviceAct
  device_ticks : ℕ → Flow → DeviceAct

unfoldable pub device_step : Plan → OneDevice → DeviceAct → OneDevice
device_step P O (device_turns m) = let t = device_turn P O m in record { owns = update O.owns m t.own; states = λ s. state_after P s (O.states s) t.turn }
device_step P O (device_responds m e) = record { owns = update O.owns m (P.respond m (O.owns m) e).own; states = O.states }
device_step P O (device_ticks m r) = record { owns = update O.owns m (P.tick m (O.owns m) r).own; states = O.states }

-- ---- neighbours and messages

-- "A supervisor is a module's neighbour if its alphabet has an event of that module."
unfoldable pub neighbour : Plan → ℕ → ℕ → Bool
neighbour P m s = is_some (least (λ e. eqb (P.owner e) m && P.alphabet s e) P.events)

unfoldable pub has_neighbour : Plan → ℕ → Bool
has_neighbour P m = is_some (least (neighbour P m) P.supervisors)

-- "Messages: `01` bid (module, supervisor); `02` permit (supervisor, module, 8-byte mask); `03` release (module, supervisor, event, or FF
-- for no event)."
pub data Message : Type 0 where
  bid : ℕ → ℕ → Message
  permit : ℕ → ℕ → ℕ → Message
  release : ℕ → ℕ → Option ℕ → Message

-- ---- a module

-- its own part, the supervisors whose permits are held, the masks received, and the supervisor of the bid outstanding
pub record ModuleState : Type 0 where
  pub own : Own
  pub held : ℕ
  pub received : ℕ
  pub outstanding : Option ℕ

-- "its lowest neighbour not held", the held ones being h
unfoldable pub lacks : Plan → ℕ → ℕ → ℕ → Bool
lacks P m h s = neighbour P m s && not (bit h s)

unfoldable pub missing : Plan → ℕ → ℕ → Option ℕ
missing P m h = least (lacks P m h) P.supervisors

pub data Choice : Type 0 where
  takes_turn waits : Choice
  bids_to : ℕ → Choice

-- The choice of a module step, a clause for each of its sentences. Its arguments: the lowest neighbour not held, if any; whether the module has
-- neighbours; the supervisor of the bid outstanding, if any; whether a permit is held; whether it has a wish.
unfoldable pub choice_on : (not_held : Option ℕ) (any_neighbour : Bool) (outstanding : Option ℕ) (holds wishes : Bool) → Choice
-- "with every neighbour's permit held, it takes a turn"
choice_on None true outstanding holds wishes = takes_turn
-- "A module without neighbours takes its turn if it has a wish, else waits."
choice_on None false outstanding holds wishes = cond wishes takes_turn waits
-- "Otherwise, with no bid outstanding and either a permit held or a wish, it bids to its lowest neighbour not held. Otherwise it waits."
choice_on (Some s) any_neighbour None holds wishes = cond (holds || wishes) (bids_to s) waits
choice_on (Some s) any_neighbour (Some b) holds wishes = waits

unfoldable pub choice : Plan → ℕ → ModuleState → Choice
choice P m x = choice_on (missing P m x.held) (has_neighbour P m) x.outstanding (not (eqb x.held 0)) (P.wish m x.own)

unfoldable pub after_turn : Plan → ℕ → ModuleState → ModuleState
after_turn P m x = record { own = (P.turn m x.received x.own).own; held = 0; received = 0; outstanding = x.outstanding }

-- "A release carries the event that fired if that supervisor's alphabet has it, else FF."
unfoldable pub event_for : Plan → ℕ → Option ℕ → Option ℕ
event_for P s (Some e) = cond (P.alphabet s e) (Some e) None
event_for P s None = None

-- to the neighbours below n
unfoldable pub releases : Plan → ℕ → Option ℕ → ℕ → List Message
releases P m t zero = []
releases P m t (suc n) = releases P m t n ++ cond (neighbour P m n) (release m n (event_for P n t) ∷ []) []

unfoldable pub after_bid : ModuleState → ℕ → ModuleState
after_bid x s = record { own = x.own; held = x.held; received = x.received; outstanding = Some s }

-- "A module accepts a permit only from the supervisor it has a bid with, and takes its mask as it is." None: refused, by 12.
unfoldable pub after_permit : ModuleState → ℕ → ℕ → ModuleState
after_permit x s k = record { own = x.own; held = put_bit x.held s true; received = bit_or x.received k; outstanding = None }

unfoldable pub take_permit : ModuleState → ℕ → ℕ → Option ModuleState
take_permit x s k = cond (is_number x.outstanding s) (Some (after_permit x s k)) None

-- after a response or a tick
abbrev pub with_own : ModuleState → Own → ModuleState
with_own x o = record { own = o; held = x.held; received = x.received; outstanding = x.outstanding }

-- ---- a supervisor

-- its automaton's state, the modules noted, the module that its permit is out to, and the one last served
pub record SupervisorState : Type 0 where
  pub state : ℕ
  pub noted : ℕ
  pub holder : Option ℕ
  pub last_served : ℕ

-- "A supervisor step with the permit home sends it, with its shown mask, to the first noted module cyclically after the last served (15 at
-- the start) and removes that note. Otherwise it waits."
unfoldable pub first_noted : SupervisorState → Option ℕ
first_noted y = option_map (module_after y.last_served) (least (λ k. bit y.noted (module_after y.last_served k)) 16)

unfoldable pub served_on : Option ℕ → Option ℕ → Option ℕ
served_on (Some m) first = None
served_on None first = first

unfoldable pub served : SupervisorState → Option ℕ
served y = served_on y.holder (first_noted y)

unfoldable pub after_sending : SupervisorState → ℕ → SupervisorState
after_sending y m = record { state = y.state; noted = put_bit y.noted m false; holder = Some m; last_served = m }

-- "a bid is noted; a second noted bid of that module is 12." None: refused.
unfoldable pub after_noting : SupervisorState → ℕ → SupervisorState
after_noting y m = record { state = y.state; noted = put_bit y.noted m true; holder = y.holder; last_served = y.last_served }

unfoldable pub take_bid : SupervisorState → ℕ → Option SupervisorState
take_bid y m = cond (bit y.noted m) None (Some (after_noting y m))

-- "A release, due only from the holder, applies its event and brings the permit home; an event outside the alphabet or of another module is
-- 11." None: refused.
unfoldable pub event_of_both : Plan → ℕ → ℕ → Option ℕ → Bool
event_of_both P m s None = true
event_of_both P m s (Some e) = P.alphabet s e && eqb (P.owner e) m

unfoldable pub applied : Plan → ℕ → ℕ → Option ℕ → ℕ
applied P s x None = x
applied P s x (Some e) = unwrap_or (P.supervisor_move s x e) x

unfoldable pub after_release : Plan → ℕ → SupervisorState → Option ℕ → SupervisorState
after_release P s y v = record { state = applied P s y.state v; noted = y.noted; holder = None; last_served = y.last_served }

unfoldable pub take_release : Plan → ℕ → SupervisorState → ℕ → Option ℕ → Option SupervisorState
take_release P s y m v = cond (is_number y.holder m && event_of_both P m s v) (Some (after_release P s y v)) None
