-- The state that a call leaves can be encoded if the state that it got can, and so can every starting state. Thus what one call leaves is what the
-- next one reads (`module_again`, `supervisor_again` and `device_again` of specs/Exact.antt). Of every image, whether accepted or not; a message
-- is a list of bytes. Of a check in pieces it is `StaysEncodable` of crate piece_laws.
use Rattle.std.specs.Prelude.{ℕ, List}
use Rattle.roundtrip.specs.Fits.{Bytes}
use Rattle.water.specs.declared.Flow.{Flow}
use Rattle.device.specs.Device.{start_call, turn_call, respond_call, tick_call}
use Rattle.permits.specs.Module.{module_start, module_step, module_deliver, module_respond, module_tick}
use Rattle.permits.specs.Supervisor.{supervisor_start, supervisor_step, supervisor_deliver}
use Rattle.device_states.specs.declared.Device.{Device}
use Rattle.permits.specs.declared.Module.{Module}
use Rattle.permits.specs.declared.Supervisor.{Supervisor}
use Rattle.party_bytes.specs.Module.{ModuleEncodable}
use Rattle.party_bytes.specs.Supervisor.{SupervisorEncodable}
use Rattle.device_bytes.specs.Device.{DeviceEncodable}

pub record AllEncodable : Type 0 where
  pub module_start : (image : List ℕ) (m : ℕ) → ModuleEncodable (module_start image m).state
  pub module_step : (image : List ℕ) (m : ℕ) (x : Module) (b : List ℕ) → ModuleEncodable x → ModuleEncodable (module_step image m x b).state
  pub module_deliver : (image : List ℕ) (m : ℕ) (x : Module) (g : List ℕ) → Bytes g → ModuleEncodable x
      → ModuleEncodable (module_deliver image m x g).state
  pub module_respond : (image : List ℕ) (m : ℕ) (x : Module) (e : ℕ) → ModuleEncodable x → ModuleEncodable (module_respond image m x e).state
  pub module_tick : (image : List ℕ) (m : ℕ) (x : Module) (f : Flow) → ModuleEncodable x → ModuleEncodable (module_tick image m x f).state
  pub supervisor_start : (image : List ℕ) (v : ℕ) → SupervisorEncodable (supervisor_start image v).state
  pub supervisor_step : (image : List ℕ) (v : ℕ) (y : Supervisor) (b : List ℕ) → SupervisorEncodable y
      → SupervisorEncodable (supervisor_step image v y b).state
  pub supervisor_deliver : (image : List ℕ) (v : ℕ) (y : Supervisor) (g : List ℕ) → SupervisorEncodable y
      → SupervisorEncodable (supervisor_deliver image v y g).state
  pub device_start : (image : List ℕ) → DeviceEncodable (start_call image).device
  pub device_turn : (image : List ℕ) (d : Device) (m : ℕ) → DeviceEncodable d → DeviceEncodable (turn_call image d m).device
  pub device_respond : (image : List ℕ) (d : Device) (m e : ℕ) → DeviceEncodable d → DeviceEncodable (respond_call image d m e).device
  pub device_tick : (image : List ℕ) (d : Device) (m : ℕ) (f : Flow) → DeviceEncodable d → DeviceEncodable (tick_call image d m f).device
