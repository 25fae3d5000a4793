-- All modules and supervisors with the messages under way, lists of calls on them, and what document 01's "What demand 3 compares" takes
-- from such a list, over an abstract plan and without bytes. These are steps of a proof: what has to be read is `Demand` of crate agreement,
-- which names of this file `turn_events`, `commands_of`, `replay`, `start_position` and `Legal`, with `Position`, `after_event` and `LegalEvent`, which
-- these name.
use Rattle.std.specs.Prelude.{ℕ, ◌<◌, ◌≡◌, ◌≢◌, true, false, cond, List, [], ◌∷◌, ◌++◌, ltb, Option, Some, None, Result, ⊤, unwrap_or, is_some}
use Rattle.bits.specs.Bit.{bit}
use Rattle.water.specs.declared.Flow.{Flow}
use Rattle.modules.specs.declared.Own.{Own}
use Rattle.modules.specs.declared.Turned.{Turned}
use Rattle.modules.specs.declared.Replied.{Replied}
use Rattle.protocol.specs.Generic.{update, Picked, pick}
use Rattle.protocol.specs.Plan.{Plan}
use Rattle.protocol.specs.Rules.{OneDevice, DeviceAct, device_turns, device_responds, device_ticks, device_turn, device_step, state_after, Message, bid, permit, release, ModuleState, Choice, takes_turn, waits, bids_to, choice, after_turn, releases, after_bid, take_permit, with_own, SupervisorState, served, after_sending, take_bid, take_release}

-- ---- the system
pub record System : Type 0 where
  pub module_at : ℕ → ModuleState
  pub supervisor_at : ℕ → SupervisorState
  pub under_way : List Message

pub data Act : Type 0 where
  module_step supervisor_step : ℕ → Act
  -- the message at an index among those under way
  deliver : ℕ → Act
  respond : ℕ → ℕ → Act
  tick : ℕ → Flow → Act

-- with another state of one module or one supervisor, and the messages w under way
abbrev pub with_module : System → ℕ → ModuleState → List Message → System
with_module D m x w = record { module_at = update D.module_at m x; supervisor_at = D.supervisor_at; under_way = w }

abbrev pub with_supervisor : System → ℕ → SupervisorState → List Message → System
with_supervisor D s y w = record { module_at = D.module_at; supervisor_at = update D.supervisor_at s y; under_way = w }

-- "A message is sent by the accepted step that writes it and under way until delivered; equal bytes sent twice are two messages."
unfoldable pub after_module_step : Plan → System → ℕ → Choice → System
after_module_step P D m takes_turn =
    let t = P.turn m (D.module_at m).received (D.module_at m).own in
    with_module D m (after_turn P m (D.module_at m)) (D.under_way ++ releases P m t.turn P.supervisors)
after_module_step P D m (bids_to s) = with_module D m (after_bid (D.module_at m) s) (D.under_way ++ (bid m s ∷ []))
after_module_step P D m waits = D

unfoldable pub after_supervisor_step : Plan → System → ℕ → Option ℕ → System
after_supervisor_step P D s None = D
after_supervisor_step P D s (Some m) =
    let k = P.shown s (D.supervisor_at s).state in
    with_supervisor D s (after_sending (D.supervisor_at s) m) (D.under_way ++ (permit s m k ∷ []))

-- a message comes to the party that it names, the rest w being under way still; a refused one changes no state
unfoldable pub after_message : Plan → System → List Message → Message → System
after_message P D w (bid m s) = with_supervisor D s (unwrap_or (take_bid (D.supervisor_at s) m) (D.supervisor_at s)) w
after_message P D w (permit s m k) = with_module D m (unwrap_or (take_permit (D.module_at m) s k) (D.module_at m)) w
after_message P D w (release m s v) = with_supervisor D s (unwrap_or (take_release P s (D.supervisor_at s) m v) (D.supervisor_at s)) w

unfoldable pub after_delivery : Plan → System → Option (Picked Message) → System
after_delivery P D None = D
after_delivery P D (Some q) = after_message P D q.rest q.item

unfoldable pub after_own : System → ℕ → Own → System
after_own D m o = with_module D m (with_own (D.module_at m) o) D.under_way

-- "Calls for a party that the plan lacks are merely refused, their numbers not compared."
unfoldable pub step : Plan → System → Act → System
step P D (module_step m) = cond (ltb m P.modules) (after_module_step P D m (choice P m (D.module_at m))) D
step P D (supervisor_step s) = cond (ltb s P.supervisors) (after_supervisor_step P D s (served (D.supervisor_at s))) D
step P D (deliver k) = after_delivery P D (pick k D.under_way)
step P D (respond m e) = cond (ltb m P.modules) (after_own D m (P.respond m (D.module_at m).own e).own) D
step P D (tick m r) = cond (ltb m P.modules) (after_own D m (P.tick m (D.module_at m).own r).own) D

unfoldable pub run : Plan → System → List Act → System
run P D [] = D
run P D (a ∷ l) = run P (step P D a) l

-- "At the start all are in their initial states, permits are home, nothing is noted, queued or bid, procedures are idle and outputs off."
unfoldable pub start_system : Plan → System
start_system P = record {
  module_at = λ m. record { own = P.start m; held = 0; received = 0; outstanding = None };
  supervisor_at = λ s. record { state = P.supervisor_initial s; noted = 0; holder = None; last_served = 15 };
  under_way = [];
}

unfoldable pub start_device : Plan → OneDevice
start_device P = record { owns = P.start; states = P.supervisor_initial }

-- ---- what is compared

-- "Equal are a turn's event .. or none, any refusal's number, and after each the module's state, queue, procedure, water and outputs." Document 02,
-- 2.5: "The comparison with one device is made with this turn on both sides."
pub data Seen : Type 0 where
  turn_seen : ℕ → Option ℕ → Own → Seen
  reply_seen : ℕ → Result ⊤ ℕ → Own → Seen

abbrev pub turned_seen : ℕ → Turned → Seen
turned_seen m t = turn_seen m t.turn t.own

abbrev pub replied_seen : ℕ → Replied → Seen
replied_seen m r = reply_seen m r.reply r.own

unfoldable pub step_seen : Plan → ℕ → ModuleState → Choice → List Seen
step_seen P m x takes_turn = turned_seen m (P.turn m x.received x.own) ∷ []
step_seen P m x (bids_to s) = []
step_seen P m x waits = []

unfoldable pub act_seen : Plan → System → Act → List Seen
act_seen P D (module_step m) = cond (ltb m P.modules) (step_seen P m (D.module_at m) (choice P m (D.module_at m))) []
act_seen P D (supervisor_step s) = []
act_seen P D (deliver k) = []
act_seen P D (respond m e) = cond (ltb m P.modules) (replied_seen m (P.respond m (D.module_at m).own e) ∷ []) []
act_seen P D (tick m r) = cond (ltb m P.modules) (replied_seen m (P.tick m (D.module_at m).own r) ∷ []) []

unfoldable pub seen : Plan → System → List Act → List Seen
seen P D [] = []
seen P D (a ∷ l) = act_seen P D a ++ seen P (step P D a) l

-- "The one-device controller, from its start, is fed each response and tick as called, and a turn for each module step that by the rules
-- above takes one; nothing else."
unfoldable pub step_fed : ℕ → Choice → List DeviceAct
step_fed m takes_turn = device_turns m ∷ []
step_fed m (bids_to s) = []
step_fed m waits = []

unfoldable pub act_fed : Plan → System → Act → List DeviceAct
act_fed P D (module_step m) = cond (ltb m P.modules) (step_fed m (choice P m (D.module_at m))) []
act_fed P D (supervisor_step s) = []
act_fed P D (deliver k) = []
act_fed P D (respond m e) = cond (ltb m P.modules) (device_responds m e ∷ []) []
act_fed P D (tick m r) = cond (ltb m P.modules) (device_ticks m r ∷ []) []

unfoldable pub fed : Plan → System → List Act → List DeviceAct
fed P D [] = []
fed P D (a ∷ l) = act_fed P D a ++ fed P (step P D a) l

unfoldable pub device_act_seen : Plan → OneDevice → DeviceAct → Seen
device_act_seen P O (device_turns m) = turned_seen m (device_turn P O m)
device_act_seen P O (device_responds m e) = replied_seen m (P.respond m (O.owns m) e)
device_act_seen P O (device_ticks m r) = replied_seen m (P.tick m (O.owns m) r)

unfoldable pub device_run : Plan → OneDevice → List DeviceAct → OneDevice
device_run P O [] = O
device_run P O (a ∷ l) = device_run P (device_step P O a) l

unfoldable pub device_seen : Plan → OneDevice → List DeviceAct → List Seen
device_seen P O [] = []
device_seen P O (a ∷ l) = device_act_seen P O a ∷ device_seen P (device_step P O a) l

-- ---- the record

-- document 01's terms "record" and "commands": "The record lists the events fired, in order; commands are its controllable ones."
unfoldable pub turn_events : Option ℕ → List ℕ
turn_events (Some e) = e ∷ []
turn_events None = []

unfoldable pub record_of_events : List Seen → List ℕ
record_of_events [] = []
record_of_events (turn_seen m t o ∷ l) = turn_events t ++ record_of_events l
record_of_events (reply_seen m r o ∷ l) = record_of_events l

unfoldable pub commands_of : Plan → List ℕ → List ℕ
commands_of P [] = []
commands_of P (e ∷ w) = cond (P.controllable e) (e ∷ commands_of P w) (commands_of P w)

-- document 01's term "replay": "Replay leads modules and supervisors from their initial states along it as firing does; an event is judged by moves
-- and shown masks just before it."
pub record Position : Type 0 where
  pub module_states : ℕ → ℕ
  pub supervisor_states : ℕ → ℕ

unfoldable pub start_position : Plan → Position
start_position P = record { module_states = P.initial; supervisor_states = P.supervisor_initial }

unfoldable pub after_event : Plan → Position → ℕ → Position
after_event P p e = record {
  module_states = update p.module_states (P.owner e) (unwrap_or (P.move (P.owner e) (p.module_states (P.owner e)) e) (p.module_states (P.owner e)));
  supervisor_states = λ s. state_after P s (p.supervisor_states s) (Some e);
}

unfoldable pub replay : Plan → Position → List ℕ → Position
replay P p [] = p
replay P p (e ∷ w) = replay P (after_event P p e) w

pub record LegalEvent (P : Plan) (p : Position) (e : ℕ) : Type 0 where
  pub listed : is_some (P.move (P.owner e) (p.module_states (P.owner e)) e) ≡ true
  pub disabled_by_none : (s : ℕ) → s < P.supervisors → bit (P.shown s (p.supervisor_states s)) e ≡ false

pub data Legal (P : Plan) : Position → List ℕ → Type 0 where
  none_left : {p : Position} → Legal P p []
  next : {p : Position} {e : ℕ} {w : List ℕ} → LegalEvent P p e → Legal P (after_event P p e) w → Legal P p (e ∷ w)

-- ---- progress
abbrev pub Accepts : Plan → System → Message → Type 0
Accepts P D (bid m s) = (y : SupervisorState) × (take_bid (D.supervisor_at s) m ≡ Some y)
Accepts P D (permit s m k) = (x : ModuleState) × (take_permit (D.module_at m) s k ≡ Some x)
Accepts P D (release m s v) = (y : SupervisorState) × (take_release P s (D.supervisor_at s) m v ≡ Some y)

-- another state of a module or a supervisor of the plan
pub data Changes (P : Plan) (D D' : System) : Type 0 where
  of_module : (m : ℕ) → m < P.modules → D'.module_at m ≢ D.module_at m → Changes P D D'
  of_supervisor : (s : ℕ) → s < P.supervisors → D'.supervisor_at s ≢ D.supervisor_at s → Changes P D D'

pub data Progress (P : Plan) (D : System) : Type 0 where
  by_delivery : (k : ℕ) (q : Picked Message) → pick k D.under_way ≡ Some q → Accepts P D q.item → Changes P D (step P D (deliver k)) → Progress P D
  by_module_step : (m : ℕ) → Changes P D (step P D (module_step m)) → Progress P D
  by_supervisor_step : (s : ℕ) → Changes P D (step P D (supervisor_step s)) → Progress P D
