-- The calls of the one-device controller over lent bytes. Each is the call of crate device on the device that the state's bytes are.
use Rattle.refusal.specs.Refusal.{refused_number}
use Rattle.std.specs.Prelude.{ℕ, List, [], Float}
use Rattle.device.specs.Device.{start_call, turn_call, respond_call, tick_call}
use Rattle.device_states.specs.declared.Device.{Device}
use Rattle.device.specs.declared.DeviceCalled.{DeviceCalled}
use Rattle.device.specs.declared.DeviceTurned.{DeviceTurned}
use Rattle.device_bytes.specs.Device.{device_size, device_bytes, device_put, device_of}
use Rattle.packing.specs.Answer.{Answer, called_answer, turning_answer, lent_after, start_answer}
use Rattle.packing.specs.Flow.{flow_of}

-- the state's bytes s after a call of number n that leaves the device d
abbrev pub device_bytes_after : ℕ → Device → List ℕ → List ℕ
device_bytes_after n d s = lent_after n (device_put d s) s

abbrev pub called_on : DeviceCalled → List ℕ → Answer
called_on c s = record { number = called_answer c.answer; state = device_bytes_after (refused_number c.answer) c.device s; buffer = [] }

abbrev pub turned_on : DeviceTurned → List ℕ → Answer
turned_on c s = record { number = turning_answer c.answer; state = device_bytes_after (refused_number c.answer) c.device s; buffer = [] }

unfoldable pub start_bytes : List ℕ → List ℕ → Answer
start_bytes image b = start_answer device_size (start_call image).answer (device_bytes (start_call image).device) b

unfoldable pub turn_bytes : List ℕ → List ℕ → ℕ → Answer
turn_bytes image s m = turned_on (turn_call image (device_of s) m) s

unfoldable pub respond_bytes : List ℕ → List ℕ → ℕ → ℕ → Answer
respond_bytes image s m e = called_on (respond_call image (device_of s) m e) s

unfoldable pub tick_bytes : List ℕ → List ℕ → ℕ → ℕ → Float → Answer
tick_bytes image s m sensor litres = called_on (tick_call image (device_of s) m (flow_of sensor litres)) s
