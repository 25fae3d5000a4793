-- A call over bytes is the call on the state that they are. Given the bytes of a state that can be encoded, it gives the number of the call's
-- answer, the bytes of the state that the call leaves and its buffer, for every image and every argument, refused or not. A message is a list of
-- bytes. The calls of a check in pieces, which are given no image, stand last.
use Rattle.refusal.specs.declared.Refusal.{Refusal}
use Rattle.std.specs.Prelude.{ℕ, ◌≤◌, ◌≡◌, List, [], ◌++◌, length, drop, replicate, Float, Result, Ok, Err, ⊤}
use Rattle.roundtrip.specs.Fits.{Bytes}
use Rattle.device.specs.Device.{start_call, turn_call, respond_call, tick_call}
use Rattle.permits.specs.Module as M
use Rattle.permits.specs.Supervisor as S
use Rattle.device_states.specs.declared.Device.{Device}
use Rattle.device.specs.declared.DeviceCalled.{DeviceCalled}
use Rattle.device.specs.declared.DeviceTurned.{DeviceTurned}
use Rattle.permits.specs.declared.Module.{Module}
use Rattle.permits.specs.declared.Supervisor.{Supervisor}
use Rattle.permits.specs.declared.ModuleCalled.{ModuleCalled}
use Rattle.permits.specs.declared.SupervisorCalled.{SupervisorCalled}
use Rattle.pieces.specs.Pieces.{starting, piece_taken, verdict_by}
use Rattle.pieces.specs.declared.CheckState.{CheckState}
use Rattle.piece_bytes.specs.State.{state_bytes, StateEncodable}
use Rattle.party_bytes.specs.Module.{module_size, module_bytes, ModuleEncodable}
use Rattle.party_bytes.specs.Supervisor.{supervisor_size, supervisor_bytes, SupervisorEncodable}
use Rattle.device_bytes.specs.Device.{device_size, device_bytes, DeviceEncodable}
use Rattle.packing.specs.Answer.{Answer, refused, done, called_answer, turning_answer, stepped_answer, served_answer}
use Rattle.packing.specs.Flow.{flow_of}
use Rattle.piece_interface.specs.Calls.{check_start_bytes, check_piece_bytes, check_answer_bytes}
use Rattle.device_interface.specs.Calls as DeviceCalls
use Rattle.module_interface.specs.Calls as ModuleCalls
use Rattle.supervisor_interface.specs.Calls as SupervisorCalls

-- the answers of the calls, with the states as bytes
abbrev pub module_answer : ModuleCalled → Answer
module_answer c = record { number = called_answer c.answer; state = module_bytes c.state; buffer = [] }

abbrev pub step_answer : M.StepCall → Answer
step_answer c = record { number = stepped_answer c.answer; state = module_bytes c.state; buffer = c.buffer }

abbrev pub supervisor_answer : SupervisorCalled → Answer
supervisor_answer c = record { number = called_answer c.answer; state = supervisor_bytes c.state; buffer = [] }

abbrev pub serve_answer : S.ServeCall → Answer
serve_answer c = record { number = served_answer c.answer; state = supervisor_bytes c.state; buffer = c.buffer }

abbrev pub device_answer : DeviceCalled → Answer
device_answer c = record { number = called_answer c.answer; state = device_bytes c.device; buffer = [] }

abbrev pub device_turn_answer : DeviceTurned → Answer
device_turn_answer c = record { number = turning_answer c.answer; state = device_bytes c.device; buffer = [] }

-- a piece taken, after which the check has the state k
abbrev pub taken_answer : CheckState → Answer
taken_answer k = record { number = done 0 0 0; state = state_bytes k; buffer = [] }

-- a start, whose state has so many bytes: they are the first ones of the buffer, and the rest stays; a refused start leaves the buffer
abbrev pub started_answer : ℕ → Result ⊤ Refusal → List ℕ → List ℕ → Answer
started_answer size (Ok u) bytes l = record { number = done 0 0 size; state = []; buffer = bytes ++ drop size l }
started_answer size (Err e) bytes l = record { number = refused e.number e.offset; state = []; buffer = l }

pub record SameCalls : Type 0 where
  pub module_step : (image : List ℕ) (m : ℕ) (x : Module) (b : List ℕ) → ModuleEncodable x
      → ModuleCalls.step_bytes image (module_bytes x) m b ≡ step_answer (M.module_step image m x b)
  pub module_deliver : (image : List ℕ) (m : ℕ) (x : Module) (g : List ℕ) → Bytes g → ModuleEncodable x
      → ModuleCalls.deliver_bytes image (module_bytes x) m g ≡ module_answer (M.module_deliver image m x g)
  pub module_respond : (image : List ℕ) (m : ℕ) (x : Module) (e : ℕ) → ModuleEncodable x
      → ModuleCalls.respond_bytes image (module_bytes x) m e ≡ module_answer (M.module_respond image m x e)
  pub module_tick : (image : List ℕ) (m : ℕ) (x : Module) (s : ℕ) (l : Float) → ModuleEncodable x
      → ModuleCalls.tick_bytes image (module_bytes x) m s l ≡ module_answer (M.module_tick image m x (flow_of s l))
  pub supervisor_step : (image : List ℕ) (v : ℕ) (y : Supervisor) (b : List ℕ) → SupervisorEncodable y
      → SupervisorCalls.step_bytes image (supervisor_bytes y) v b ≡ serve_answer (S.supervisor_step image v y b)
  pub supervisor_deliver : (image : List ℕ) (v : ℕ) (y : Supervisor) (g : List ℕ) → SupervisorEncodable y
      → SupervisorCalls.deliver_bytes image (supervisor_bytes y) v g ≡ supervisor_answer (S.supervisor_deliver image v y g)
  pub device_turn : (image : List ℕ) (d : Device) (m : ℕ) → DeviceEncodable d
      → DeviceCalls.turn_bytes image (device_bytes d) m ≡ device_turn_answer (turn_call image d m)
  pub device_respond : (image : List ℕ) (d : Device) (m e : ℕ) → DeviceEncodable d
      → DeviceCalls.respond_bytes image (device_bytes d) m e ≡ device_answer (respond_call image d m e)
  pub device_tick : (image : List ℕ) (d : Device) (m s : ℕ) (l : Float) → DeviceEncodable d
      → DeviceCalls.tick_bytes image (device_bytes d) m s l ≡ device_answer (tick_call image d m (flow_of s l))
  -- a start that is given room for the state, whatever stood in the bytes lent
  pub module_start : (image : List ℕ) (m : ℕ) (l : List ℕ) → module_size ≤ length l
      → ModuleCalls.start_bytes image m l ≡ started_answer module_size (M.module_start image m).answer (module_bytes (M.module_start image m).state) l
  pub supervisor_start : (image : List ℕ) (v : ℕ) (l : List ℕ) → supervisor_size ≤ length l
      → SupervisorCalls.start_bytes image v l
      ≡ started_answer supervisor_size (S.supervisor_start image v).answer (supervisor_bytes (S.supervisor_start image v).state) l
  pub device_start : (image l : List ℕ) → device_size ≤ length l
      → DeviceCalls.start_bytes image l ≡ started_answer device_size (start_call image).answer (device_bytes (start_call image).device) l
  -- a start into zeros leaves the bytes of the state that it gives, also a refused one
  pub module_zeros : (image : List ℕ) (m : ℕ)
      → (ModuleCalls.start_bytes image m (replicate module_size 0)).buffer ≡ module_bytes (M.module_start image m).state
  pub supervisor_zeros : (image : List ℕ) (v : ℕ)
      → (SupervisorCalls.start_bytes image v (replicate supervisor_size 0)).buffer ≡ supervisor_bytes (S.supervisor_start image v).state
  -- the check in pieces
  pub check_start : (l : List ℕ) → 495 ≤ length l → check_start_bytes l ≡ started_answer 495 (Ok tt) (state_bytes starting) l
  pub check_piece : (k : CheckState) (p : List ℕ) → StateEncodable k → check_piece_bytes (state_bytes k) p ≡ taken_answer (piece_taken k p)
  pub check_answer : (k : CheckState) → StateEncodable k → check_answer_bytes (state_bytes k) ≡ called_answer (verdict_by k)
