-- Document 01, "What demand 3 compares": what is taken from a list of calls, and what from the one-device controller.
use Rattle.refusal.specs.declared.Refusal.{Refusal}
use Rattle.messages.specs.declared.Message.{Message}
use Rattle.std.specs.Prelude.{ℕ, List, [], ◌∷◌, ◌++◌, cond, eqb, ltb, Option, Some, None, Result, Ok, Err, ⊤}
use Rattle.records.specs.declared.Record.{Record}
use Rattle.reader.specs.Walk.{records_of}
use Rattle.rules.specs.LookUp.{modules_of}
use Rattle.water.specs.declared.Flow.{Flow}
use Rattle.modules.specs.declared.Own.{Own}
use Rattle.device_states.specs.States.{own_at}
use Rattle.device.specs.Device.{turn_call, respond_call, tick_call}
use Rattle.device_states.specs.declared.Device.{Device}
use Rattle.permits.specs.declared.Stepped.{Stepped}
use Rattle.permits.specs.declared.Stepped.TheVariants.{Turns, Bids, Waits}
use Rattle.permits.specs.declared.Served.{Served}
use Rattle.permits.specs.declared.Served.TheVariants.{Sends, Waits as SupervisorWaits}
use Rattle.permits.specs.declared.Holder.{Holder}
use Rattle.permits.specs.declared.Holder.TheVariants.{Home, Out}
use Rattle.messages.specs.Message.{parse}
use Rattle.messages.specs.declared.Message.TheVariants.{Bid, Permit, Release}
use Rattle.permits.specs.Module as M
use Rattle.permits.specs.Supervisor as S
use Rattle.protocol.specs.System.{turn_events}
use Rattle.agreement.specs.System.{System, Act, module_step, supervisor_step, deliver, respond, tick, brought, step}

-- "Equal are a turn's event .. or none, any refusal's number, and after each the module's state, queue, procedure, water and outputs." Document 02,
-- 2.5: "The comparison with one device is made with this turn on both sides."
pub data Seen : Type 0 where
  turn_seen : ℕ → Option ℕ → Own → Seen
  refusal_seen : ℕ → ℕ → Own → Seen
  call_seen : ℕ → Result ⊤ Refusal → Own → Seen

unfoldable pub step_seen : ℕ → Result Stepped Refusal → Own → List Seen
step_seen m (Ok (Turns t n)) own = turn_seen m t own ∷ []
step_seen m (Ok (Bids v n)) own = []
step_seen m (Ok Waits) own = []
step_seen m (Err e) own = []

-- "Calls for a party that the plan lacks are merely refused, their numbers not compared."
unfoldable pub act_seen : List ℕ → System → Act → List Seen
act_seen image D (module_step m b) = let c = M.module_step image m (D.module_at m) b in step_seen m c.answer c.state.own
act_seen image D (supervisor_step v b) = []
act_seen image D (deliver k) = []
act_seen image D (respond m e) =
    let c = M.module_respond image m (D.module_at m) e in cond (ltb m (modules_of (records_of image))) (call_seen m c.answer c.state.own ∷ []) []
act_seen image D (tick m f) =
    let c = M.module_tick image m (D.module_at m) f in cond (ltb m (modules_of (records_of image))) (call_seen m c.answer c.state.own ∷ []) []

unfoldable pub seen : List ℕ → System → List Act → List Seen
seen image D [] = []
seen image D (a ∷ l) = act_seen image D a ++ seen image (step image D a) l

-- "The one-device controller, from its start, is fed each response and tick as called, and a turn for each module step that by the rules
-- above takes one; nothing else."
pub data DeviceAct : Type 0 where
  device_turn : ℕ → DeviceAct
  device_respond : ℕ → ℕ → DeviceAct
  device_tick : ℕ → Flow → DeviceAct

unfoldable pub choice_fed : ℕ → M.Choice → List DeviceAct
choice_fed m M.takes_turn = device_turn m ∷ []
choice_fed m (M.bids_to v) = []
choice_fed m M.waits = []

unfoldable pub act_fed : List Record → System → Act → List DeviceAct
act_fed rs D (module_step m b) = cond (ltb m (modules_of rs)) (choice_fed m (M.choice rs m (D.module_at m))) []
act_fed rs D (supervisor_step v b) = []
act_fed rs D (deliver k) = []
act_fed rs D (respond m e) = cond (ltb m (modules_of rs)) (device_respond m e ∷ []) []
act_fed rs D (tick m f) = cond (ltb m (modules_of rs)) (device_tick m f ∷ []) []

unfoldable pub fed : List ℕ → System → List Act → List DeviceAct
fed image D [] = []
fed image D (a ∷ l) = act_fed (records_of image) D a ++ fed image (step image D a) l

unfoldable pub device_step : List ℕ → Device → DeviceAct → Device
device_step image d (device_turn m) = (turn_call image d m).device
device_step image d (device_respond m e) = (respond_call image d m e).device
device_step image d (device_tick m f) = (tick_call image d m f).device

unfoldable pub device_run : List ℕ → Device → List DeviceAct → Device
device_run image d [] = d
device_run image d (a ∷ l) = device_run image (device_step image d a) l

unfoldable pub turning_seen : ℕ → Result (Option ℕ) Refusal → Own → Seen
turning_seen m (Ok t) own = turn_seen m t own
turning_seen m (Err e) own = refusal_seen m e.number own

unfoldable pub device_act_seen : List ℕ → Device → DeviceAct → Seen
device_act_seen image d (device_turn m) = let c = turn_call image d m in turning_seen m c.answer (own_at c.device m)
device_act_seen image d (device_respond m e) = let c = respond_call image d m e in call_seen m c.answer (own_at c.device m)
device_act_seen image d (device_tick m f) = let c = tick_call image d m f in call_seen m c.answer (own_at c.device m)

unfoldable pub device_seen : List ℕ → Device → List DeviceAct → List Seen
device_seen image d [] = []
device_seen image d (a ∷ l) = device_act_seen image d a ∷ device_seen image (device_step image d a) l

-- document 01's term "record", of the events: "The record lists the events fired, in order"
unfoldable pub record_of_events : List Seen → List ℕ
record_of_events [] = []
record_of_events (turn_seen m t own ∷ l) = turn_events t ++ record_of_events l
record_of_events (refusal_seen m n own ∷ l) = record_of_events l
record_of_events (call_seen m r own ∷ l) = record_of_events l

-- document 01's terms "out" and "home": "A permit is out from the step that sends it until its release is accepted, else home.": the module that
-- supervisor v's permit is out to, none while it is home, by the answers of the calls
unfoldable pub after_serving : Result Served Refusal → Option ℕ → Option ℕ
after_serving (Ok (Sends m n)) h = Some m
after_serving (Ok SupervisorWaits) h = h
after_serving (Err e) h = h

unfoldable pub after_release : Result ⊤ Refusal → Option ℕ → Option ℕ
after_release (Ok u) h = None
after_release (Err e) h = h

unfoldable pub after_message : List ℕ → System → ℕ → List ℕ → Option Message → Option ℕ → Option ℕ
after_message image D v bytes (Some (Bid m w)) h = h
after_message image D v bytes (Some (Permit w m k)) h = h
after_message image D v bytes (Some (Release m w e)) h = cond (eqb w v) (after_release (S.supervisor_deliver image w (D.supervisor_at w) bytes).answer h) h
after_message image D v bytes None h = h

unfoldable pub after_delivery : List ℕ → System → ℕ → Option (List ℕ) → Option ℕ → Option ℕ
after_delivery image D v None h = h
after_delivery image D v (Some bytes) h = after_message image D v bytes (parse bytes) h

unfoldable pub act_permit : List ℕ → System → ℕ → Act → Option ℕ → Option ℕ
act_permit image D v (module_step m b) h = h
act_permit image D v (supervisor_step w b) h = cond (eqb w v) (after_serving (S.supervisor_step image w (D.supervisor_at w) b).answer h) h
act_permit image D v (deliver k) h = after_delivery image D v (brought k D.sent) h
act_permit image D v (respond m e) h = h
act_permit image D v (tick m f) h = h

unfoldable pub permit_after : List ℕ → System → ℕ → List Act → Option ℕ → Option ℕ
permit_after image D v [] h = h
permit_after image D v (a ∷ l) h = permit_after image (step image D a) v l (act_permit image D v a h)

-- the same as a supervisor's state has it
unfoldable pub out_to : Holder → Option ℕ
out_to Home = None
out_to (Out m) = Some m

-- and after a list of calls: at its beginning the permits are where the states have them, at the start home
abbrev pub permit_of : List ℕ → System → List Act → ℕ → Option ℕ
permit_of image D acts v = permit_after image D v acts (out_to (D.supervisor_at v).holder)
