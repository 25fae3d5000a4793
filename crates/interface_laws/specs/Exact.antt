-- What is read from bytes that stand for a state has no NaN and numbers within the code's types. With `stands`, `back` and `written` of the crates
-- below, encoding and decoding are inverse to each other. Of a check in pieces all of this is `StateParts` of crate piece_bytes.
use Rattle.std.specs.Prelude.{◌≡◌, List, true, ℕ}
use Rattle.roundtrip.specs.Fits.{Bytes}
use Rattle.own_bytes.specs.Own.{own_of, is_own, OwnEncodable}
use Rattle.party_bytes.specs.Module.{module_at, module_bytes, module_of, is_module, ModuleEncodable}
use Rattle.party_bytes.specs.Supervisor.{supervisor_at, supervisor_bytes, supervisor_of, is_supervisor, SupervisorEncodable}
use Rattle.device_bytes.specs.Device.{device_at, device_bytes, device_of, is_device, DeviceEncodable}
use Rattle.permits.specs.declared.Module.{Module}
use Rattle.permits.specs.declared.Supervisor.{Supervisor}
use Rattle.device_states.specs.declared.Device.{Device}

pub record Exact : Type 0 where
  pub own : (b : List ℕ) → Bytes b → is_own b ≡ true → OwnEncodable (own_of b)
  pub module_encodable : (b : List ℕ) → Bytes b → is_module b ≡ true → ModuleEncodable (module_at b)
  pub supervisor_encodable : (b : List ℕ) → Bytes b → is_supervisor b ≡ true → SupervisorEncodable (supervisor_at b)
  pub device_encodable : (b : List ℕ) → Bytes b → is_device b ≡ true → DeviceEncodable (device_at b)
  -- so bytes written for such a state are read as that state
  pub module_again : (x : Module) → ModuleEncodable x → module_of (module_bytes x) ≡ x
  pub supervisor_again : (y : Supervisor) → SupervisorEncodable y → supervisor_of (supervisor_bytes y) ≡ y
  pub device_again : (d : Device) → DeviceEncodable d → device_of (device_bytes d) ≡ d
  -- and what is written are bytes
  pub module_bytes_lem : (x : Module) → ModuleEncodable x → Bytes (module_bytes x)
  pub supervisor_bytes_lem : (y : Supervisor) → SupervisorEncodable y → Bytes (supervisor_bytes y)
  pub device_bytes_lem : (d : Device) → DeviceEncodable d → Bytes (device_bytes d)
