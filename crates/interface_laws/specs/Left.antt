-- docs/EMBEDDING.md: "State bytes .. go to the next call on the same party as the last call left them": whatever bytes a call gets, those that it
-- leaves are bytes and are read by the next call as the state that the call leaves of the state read before. Bytes that stand for no state are left,
-- and are read again as none.
use Rattle.std.specs.Prelude.{ℕ, ◌≡◌, List, cond, Float, Option, Some, None}
use Rattle.roundtrip.specs.Fits.{Bytes}
use Rattle.device.specs.Device.{turn_call, respond_call, tick_call}
use Rattle.permits.specs.Module as M
use Rattle.permits.specs.Supervisor as S
use Rattle.pieces.specs.Pieces.{piece_taken}
use Rattle.pieces.specs.declared.CheckState.{CheckState}
use Rattle.piece_bytes.specs.State.{is_state, state_at}
use Rattle.party_bytes.specs.Module.{module_of}
use Rattle.party_bytes.specs.Supervisor.{supervisor_of}
use Rattle.device_bytes.specs.Device.{device_of}
use Rattle.packing.specs.Flow.{flow_of}
use Rattle.piece_interface.specs.Calls.{check_piece_bytes}
use Rattle.device_interface.specs.Calls as DeviceCalls
use Rattle.module_interface.specs.Calls as ModuleCalls
use Rattle.supervisor_interface.specs.Calls as SupervisorCalls

-- the bytes s, read by `of`, are the state x
pub record ReadAs {A : Type 0} (of : List ℕ → A) (s : List ℕ) (x : A) : Type 0 where
  pub bytes : Bytes s
  pub state : of s ≡ x

-- the state of a check in pieces, if the bytes stand for one, and that after a piece
abbrev pub check_of : List ℕ → Option CheckState
check_of s = cond (is_state s) (Some (state_at s)) None

abbrev pub piece_on : List ℕ → Option CheckState → Option CheckState
piece_on p None = None
piece_on p (Some k) = Some (piece_taken k p)

pub record AllLeft : Type 0 where
  pub module_step : (image s : List ℕ) (m : ℕ) (b : List ℕ) → Bytes s
      → ReadAs module_of (ModuleCalls.step_bytes image s m b).state (M.module_step image m (module_of s) b).state
  pub module_deliver : (image s : List ℕ) (m : ℕ) (g : List ℕ) → Bytes s → Bytes g
      → ReadAs module_of (ModuleCalls.deliver_bytes image s m g).state (M.module_deliver image m (module_of s) g).state
  pub module_respond : (image s : List ℕ) (m e : ℕ) → Bytes s
      → ReadAs module_of (ModuleCalls.respond_bytes image s m e).state (M.module_respond image m (module_of s) e).state
  pub module_tick : (image s : List ℕ) (m f : ℕ) (x : Float) → Bytes s
      → ReadAs module_of (ModuleCalls.tick_bytes image s m f x).state (M.module_tick image m (module_of s) (flow_of f x)).state
  pub supervisor_step : (image s : List ℕ) (v : ℕ) (b : List ℕ) → Bytes s
      → ReadAs supervisor_of (SupervisorCalls.step_bytes image s v b).state (S.supervisor_step image v (supervisor_of s) b).state
  pub supervisor_deliver : (image s : List ℕ) (v : ℕ) (g : List ℕ) → Bytes s
      → ReadAs supervisor_of (SupervisorCalls.deliver_bytes image s v g).state (S.supervisor_deliver image v (supervisor_of s) g).state
  pub device_turn : (image s : List ℕ) (m : ℕ) → Bytes s
      → ReadAs device_of (DeviceCalls.turn_bytes image s m).state (turn_call image (device_of s) m).device
  pub device_respond : (image s : List ℕ) (m e : ℕ) → Bytes s
      → ReadAs device_of (DeviceCalls.respond_bytes image s m e).state (respond_call image (device_of s) m e).device
  pub device_tick : (image s : List ℕ) (m f : ℕ) (x : Float) → Bytes s
      → ReadAs device_of (DeviceCalls.tick_bytes image s m f x).state (tick_call image (device_of s) m (flow_of f x)).device
  pub check_piece : (s p : List ℕ) → Bytes s → Bytes p → ReadAs check_of (check_piece_bytes s p).state (piece_on p (check_of s))
