-- Lists of calls over bytes. docs/EMBEDDING.md: "State bytes are left alone between calls and go to the next call on the same party as the last
-- call left them", at first those of its start. The calls are those of demand 3, `Act` of crate agreement.
use Rattle.messages.specs.declared.Message.{Message}
use Rattle.std.specs.Prelude.{ℕ, ◌/◌, ◌%◌, List, [], ◌∷◌, ◌++◌, cond, take, replicate, eqb, Float, Option, Some, None}
use Rattle.litres.specs.Eighths.{eighths}
use Rattle.water.specs.declared.Flow.{Flow}
use Rattle.water.specs.declared.Flow.TheVariants.{Litres, NoSensor}
use Rattle.messages.specs.Message.{parse, release_size}
use Rattle.messages.specs.declared.Message.TheVariants.{Bid, Permit, Release}
use Rattle.permits.specs.Module as M
use Rattle.permits.specs.Supervisor as S
use Rattle.protocol.specs.Generic.{update}
use Rattle.agreement.specs.System.{Sent, System, Act, module_step, supervisor_step, deliver, respond, tick, pieces, send, mark, brought, step}
use Rattle.agreement.specs.Compared.{DeviceAct, device_turn, device_respond, device_tick, device_step}
use Rattle.device.specs.Device.{turn_call, respond_call, tick_call}
use Rattle.device_states.specs.declared.Device.{Device}
use Rattle.party_bytes.specs.Module.{module_size, module_bytes, module_of}
use Rattle.party_bytes.specs.Supervisor.{supervisor_size, supervisor_bytes, supervisor_of}
use Rattle.device_bytes.specs.Device.{device_size}
use Rattle.packing.specs.Answer.{Answer}
use Rattle.device_interface.specs.Calls as DeviceCalls
use Rattle.module_interface.specs.Calls as ModuleCalls
use Rattle.supervisor_interface.specs.Calls as SupervisorCalls
use Rattle.interface_laws.specs.Laws.{number_of}
use Rattle.interface_laws.specs.SameCalls.{module_answer, step_answer, supervisor_answer, serve_answer, device_answer, device_turn_answer}

-- the state bytes of all modules and supervisors, and every message sent so far, as crate agreement has them
pub record Memory : Type 0 where
  pub module_at : ℕ → List ℕ
  pub supervisor_at : ℕ → List ℕ
  pub sent : List Sent

-- what a list of calls gives: each call's answer, and the bytes after them
pub record Given (A : Type 0) : Type 0 where
  pub answers : List Answer
  pub memory : A

-- ---- one call

-- of an accepted answer: what was done and how many bytes were written, as `pewterslug_did` and `pewterslug_length` of include/pewterslug.h take them
abbrev pub did_of : Answer → ℕ
did_of a = a.number / 256 % 256

abbrev pub length_of : Answer → ℕ
length_of a = a.number / 4294967296

-- what is sent after an accepted step of a module: a bid (4), or, as docs/EMBEDDING.md says, "releases of 4 bytes, each a message by itself; or
-- waits, and nothing was written"
unfoldable pub module_sends : Answer → List (List ℕ)
module_sends a =
    cond (eqb (number_of a) 0)
    (cond (eqb (did_of a) 4) (take (length_of a) a.buffer ∷ []) (pieces release_size (length_of a / release_size) a.buffer)) []

-- and of a supervisor, there: "send the permit if one was written" (5)
unfoldable pub supervisor_sends : Answer → List (List ℕ)
supervisor_sends a = cond (eqb (number_of a) 0) (cond (eqb (did_of a) 5) (take (length_of a) a.buffer ∷ []) []) []

-- a flow reading as a call is given it; without a sensor the litres are not looked at
unfoldable pub sensor_of : Flow → ℕ
sensor_of (Litres x) = 1
sensor_of NoSensor = 0

unfoldable pub litres_of : Flow → Float
litres_of (Litres x) = x
litres_of NoSensor = eighths 0

-- the answer of a call on module m or supervisor v, whose state bytes are those that it leaves, the messages sent being w after it
abbrev pub on_module : Memory → ℕ → Answer → List Sent → Given Memory
on_module B m a w =
    record { answers = a ∷ []; memory = record { module_at = update B.module_at m a.state; supervisor_at = B.supervisor_at; sent = w } }

abbrev pub on_supervisor : Memory → ℕ → Answer → List Sent → Given Memory
on_supervisor B v a w =
    record { answers = a ∷ []; memory = record { module_at = B.module_at; supervisor_at = update B.supervisor_at v a.state; sent = w } }

unfoldable pub bytes_delivered : List ℕ → Memory → List ℕ → List Sent → Option Message → Given Memory
bytes_delivered image B g w (Some (Bid m v)) = on_supervisor B v (SupervisorCalls.deliver_bytes image (B.supervisor_at v) v g) w
bytes_delivered image B g w (Some (Permit v m k)) = on_module B m (ModuleCalls.deliver_bytes image (B.module_at m) m g) w
bytes_delivered image B g w (Some (Release m v e)) = on_supervisor B v (SupervisorCalls.deliver_bytes image (B.supervisor_at v) v g) w
bytes_delivered image B g w None =
    record { answers = []; memory = record { module_at = B.module_at; supervisor_at = B.supervisor_at; sent = w } }

-- "at most once": where nothing is brought, nothing is called
unfoldable pub bytes_delivered_at : List ℕ → Memory → ℕ → Option (List ℕ) → Given Memory
bytes_delivered_at image B k None = record { answers = []; memory = B }
bytes_delivered_at image B k (Some g) = bytes_delivered image B g (mark k B.sent) (parse g)

unfoldable pub bytes_step : List ℕ → Memory → Act → Given Memory
bytes_step image B (module_step m b) = let a = ModuleCalls.step_bytes image (B.module_at m) m b in on_module B m a (send B.sent (module_sends a))
bytes_step image B (supervisor_step v b) =
    let a = SupervisorCalls.step_bytes image (B.supervisor_at v) v b in on_supervisor B v a (send B.sent (supervisor_sends a))
bytes_step image B (deliver k) = bytes_delivered_at image B k (brought k B.sent)
bytes_step image B (respond m e) = on_module B m (ModuleCalls.respond_bytes image (B.module_at m) m e) B.sent
bytes_step image B (tick m f) = on_module B m (ModuleCalls.tick_bytes image (B.module_at m) m (sensor_of f) (litres_of f)) B.sent

-- ---- lists of calls

unfoldable pub bytes_run : List ℕ → Memory → List Act → Given Memory
bytes_run image B [] = record { answers = []; memory = B }
bytes_run image B (a ∷ l) =
    let s = bytes_step image B a in let r = bytes_run image s.memory l in record { answers = s.answers ++ r.answers; memory = r.memory }

-- Each party's start, in memory that is 0 before. What stood there does not matter to a party of the plan (`module_start` and `supervisor_start`
-- of specs/SameCalls.antt); the start of another is refused and leaves the zeros.
unfoldable pub bytes_start : List ℕ → Memory
bytes_start image =
    record {
      module_at = λ m. (ModuleCalls.start_bytes image m (replicate module_size 0)).buffer;
      supervisor_at = λ v. (SupervisorCalls.start_bytes image v (replicate supervisor_size 0)).buffer;
      sent = [];
    }

-- the one-device controller over bytes
unfoldable pub device_bytes_step : List ℕ → List ℕ → DeviceAct → Answer
device_bytes_step image s (device_turn m) = DeviceCalls.turn_bytes image s m
device_bytes_step image s (device_respond m e) = DeviceCalls.respond_bytes image s m e
device_bytes_step image s (device_tick m f) = DeviceCalls.tick_bytes image s m (sensor_of f) (litres_of f)

unfoldable pub device_bytes_run : List ℕ → List ℕ → List DeviceAct → Given (List ℕ)
device_bytes_run image s [] = record { answers = []; memory = s }
device_bytes_run image s (a ∷ l) =
    let c = device_bytes_step image s a in let r = device_bytes_run image c.state l in record { answers = c ∷ r.answers; memory = r.memory }

unfoldable pub device_bytes_start : List ℕ → List ℕ
device_bytes_start image = (DeviceCalls.start_bytes image (replicate device_size 0)).buffer

-- ---- the same calls on states by value, with their answers as numbers and bytes

abbrev pub encoded : System → Memory
encoded D = record { module_at = λ m. module_bytes (D.module_at m); supervisor_at = λ v. supervisor_bytes (D.supervisor_at v); sent = D.sent }

abbrev pub decoded : Memory → System
decoded B = record { module_at = λ m. module_of (B.module_at m); supervisor_at = λ v. supervisor_of (B.supervisor_at v); sent = B.sent }

unfoldable pub delivery_answers : List ℕ → System → List ℕ → Option Message → List Answer
delivery_answers image D g (Some (Bid m v)) = supervisor_answer (S.supervisor_deliver image v (D.supervisor_at v) g) ∷ []
delivery_answers image D g (Some (Permit v m k)) = module_answer (M.module_deliver image m (D.module_at m) g) ∷ []
delivery_answers image D g (Some (Release m v e)) = supervisor_answer (S.supervisor_deliver image v (D.supervisor_at v) g) ∷ []
delivery_answers image D g None = []

unfoldable pub brought_answers : List ℕ → System → Option (List ℕ) → List Answer
brought_answers image D None = []
brought_answers image D (Some g) = delivery_answers image D g (parse g)

unfoldable pub act_answers : List ℕ → System → Act → List Answer
act_answers image D (module_step m b) = step_answer (M.module_step image m (D.module_at m) b) ∷ []
act_answers image D (supervisor_step v b) = serve_answer (S.supervisor_step image v (D.supervisor_at v) b) ∷ []
act_answers image D (deliver k) = brought_answers image D (brought k D.sent)
act_answers image D (respond m e) = module_answer (M.module_respond image m (D.module_at m) e) ∷ []
act_answers image D (tick m f) = module_answer (M.module_tick image m (D.module_at m) f) ∷ []

unfoldable pub run_answers : List ℕ → System → List Act → List Answer
run_answers image D [] = []
run_answers image D (a ∷ l) = act_answers image D a ++ run_answers image (step image D a) l

unfoldable pub device_act_answer : List ℕ → Device → DeviceAct → Answer
device_act_answer image d (device_turn m) = device_turn_answer (turn_call image d m)
device_act_answer image d (device_respond m e) = device_answer (respond_call image d m e)
device_act_answer image d (device_tick m f) = device_answer (tick_call image d m f)

unfoldable pub device_answers : List ℕ → Device → List DeviceAct → List Answer
device_answers image d [] = []
device_answers image d (a ∷ l) = device_act_answer image d a ∷ device_answers image (device_step image d a) l
