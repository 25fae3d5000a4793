-- Demand 3 over the calls on bytes: for every accepted image of bytes and every list of calls, the calls over bytes, each given the bytes that the
-- last call on its party left, get the answers of the one-device controller over bytes; and they give the answers and leave the bytes of the calls
-- on states by value, so that every clause of demand 3 holds of the states that their bytes are.
use Rattle.std.specs.Prelude.{ℕ, ◌≡◌, List, Float}
use Rattle.roundtrip.specs.Fits.{Bytes}
use Rattle.rules.specs.Check.{IsPlan}
use Rattle.device.specs.Device.{start_call}
use Rattle.device_states.specs.declared.Device.{Device}
use Rattle.agreement.specs.System.{System, Act, AllLent, start, run}
use Rattle.agreement.specs.Compared.{DeviceAct, fed, device_run}
use Rattle.agreement.specs.Demand.{FromStart}
use Rattle.device_bytes.specs.Device.{device_bytes, device_of}
use Rattle.packing.specs.Flow.{flow_of}
use Rattle.device_interface.specs.Calls as DeviceCalls
use Rattle.module_interface.specs.Calls as ModuleCalls
use Rattle.interface_laws.specs.Run.{Memory, Given, sensor_of, litres_of, bytes_run, bytes_start, encoded, decoded, run_answers}
use Rattle.interface_laws.specs.Run.{device_bytes_run, device_bytes_start, device_answers}
use Rattle.interface_laws.specs.Compared.{bytes_seen, bytes_fed, device_bytes_seen}

module _ (image : List ℕ) (acts : List Act) where
  -- the calls over bytes and what they give; the system at the list's end
  abbrev memory : Memory
  memory = bytes_start image

  abbrev given : Given Memory
  given = bytes_run image memory acts

  abbrev end : System
  end = run image (start image) acts

  -- what the one-device controller is fed, told by the answers over bytes and by the rules; what it gives over bytes, and its state at the end
  abbrev told_turns : List DeviceAct
  told_turns = bytes_fed image memory acts

  abbrev turns : List DeviceAct
  turns = fed image (start image) acts

  abbrev device_given : Given (List ℕ)
  device_given = device_bytes_run image (device_bytes_start image) told_turns

  abbrev device_end : Device
  device_end = device_run image (start_call image).device turns

  pub record OverBytes : Type 0 where
    -- demand 3: "each turn taken, response and tick gets the answer that the one-device controller gives for the same turns, responses and ticks in
    -- the same order", all of it in numbers and bytes
    pub equal : bytes_seen image memory acts ≡ device_bytes_seen image (device_bytes_start image) told_turns
    -- every answer, and the bytes at the end, are those of the calls on states by value
    pub calls : given ≡ record { answers = run_answers image (start image) acts; memory = encoded end }
    -- and they are read as the states of which demand 3 holds
    pub states : decoded given.memory ≡ end
    pub demand : FromStart image acts
    -- the turns fed, told by the answers, are those that the rules take, so that `equal` leaves none out; the one device then gives the answers and
    -- the bytes of its calls by value
    pub feeds : told_turns ≡ turns
    pub device_calls : device_given ≡ record { answers = device_answers image (start_call image).device turns; memory = device_bytes device_end }
    pub device_state : device_of device_given.memory ≡ device_end

pub record DemandOverBytes : Type 0 where
  pub lists : (image : List ℕ) → Bytes image → IsPlan image → (acts : List Act) → AllLent acts → OverBytes image acts
  -- the ticks of a list are all ticks: every number but 0 tells of a sensor, and without one the litres are not looked at
  pub module_ticks : (image s : List ℕ) (m n : ℕ) (x : Float)
      → ModuleCalls.tick_bytes image s m n x ≡ ModuleCalls.tick_bytes image s m (sensor_of (flow_of n x)) (litres_of (flow_of n x))
  pub device_ticks : (image s : List ℕ) (m n : ℕ) (x : Float)
      → DeviceCalls.tick_bytes image s m n x ≡ DeviceCalls.tick_bytes image s m (sensor_of (flow_of n x)) (litres_of (flow_of n x))
