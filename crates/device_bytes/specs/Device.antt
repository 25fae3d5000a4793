-- include/pewterslug.h, the states by offset: "One device, 592 bytes: sixteen own parts of 35 bytes, then the states of 32 supervisors."
use Rattle.std.specs.Prelude.{ℕ, ◌+◌, ◌*◌, ◌≡◌, List, [], ◌∷◌, ◌++◌, Bool, true, false, cond, ◌&&◌, length, get_or, set, drop, replicate, eqb, leb, ltb}
use Rattle.bits.specs.Bit.{all_below}
use Rattle.records.specs.declared.Record.{Record}
use Rattle.roundtrip.specs.Fits.{Bytes}
use Rattle.messages.specs.Message.{put_at, written}
use Rattle.modules.specs.declared.Own.{Own}
use Rattle.words.specs.Lists.{list_from}
use Rattle.modules.specs.Fits.{own_fits, own_empty}
use Rattle.modules.specs.Turn.{empty_own}
use Rattle.device_states.specs.States.{own_at, device_fits, with_own}
use Rattle.device_states.specs.declared.Device.{Device}
use Rattle.own_bytes.specs.Own.{own_size, own_bytes, own_of, is_own, unfit_own, OwnEncodable}

-- the bytes of the slots, and of all
abbrev pub slots_size : ℕ
slots_size = 16 * own_size

abbrev pub device_size : ℕ
device_size = slots_size + 32

-- own parts one after another
unfoldable pub owns_bytes : List Own → List ℕ
owns_bytes [] = []
owns_bytes (own ∷ owns) = own_bytes own ++ owns_bytes owns

unfoldable pub device_bytes : Device → List ℕ
device_bytes d = owns_bytes d.modules ++ d.supervisors

-- a slice with the bytes of a device from its start, if it has room for them
unfoldable pub device_put : Device → List ℕ → List ℕ
device_put d s = cond (leb device_size (length s)) (written (device_bytes d) s) s

-- the device that the bytes are, by their offsets
unfoldable pub slot_of : List ℕ → ℕ → Own
slot_of b m = own_of (drop (m * own_size) b)

unfoldable pub state_byte : List ℕ → ℕ → ℕ
state_byte b v = get_or b (slots_size + v) 0

abbrev pub device_at : List ℕ → Device
device_at b = record { modules = list_from (slot_of b) 0 16; supervisors = list_from (state_byte b) 0 32 }

-- the header: "Bytes of another length, a flag other than 0 and 1, .. and f64 bits of a NaN stand for no state"
unfoldable pub is_slot : List ℕ → ℕ → Bool
is_slot b m = is_own (drop (m * own_size) b)

unfoldable pub is_device : List ℕ → Bool
is_device b = eqb (length b) device_size && all_below (is_slot b) 16

-- a device that fits no plan
abbrev pub unfit_device : Device
unfit_device = record { modules = replicate 16 unfit_own; supervisors = replicate 32 0 }

-- the device of a call: bytes that stand for no state give one that fits no plan, which every call refuses with 9
unfoldable pub device_of : List ℕ → Device
device_of b = cond (is_device b) (device_at b) unfit_device

-- whether the slot of module m stands for an own part that fits, of a plan of n modules
unfoldable pub slot_fits : List Record → ℕ → List ℕ → ℕ → Bool
slot_fits rs n b m = is_slot b m && cond (ltb m n) (own_fits rs m (slot_of b m)) (own_empty (slot_of b m))

-- what a call takes of the bytes: the supervisors' states, and a module's own part; bytes of another length have none
unfoldable pub states_in : List ℕ → List ℕ
states_in b = cond (eqb (length b) device_size) (device_at b).supervisors (replicate 32 0)

unfoldable pub own_in : List ℕ → ℕ → Own
own_in b m = cond (eqb (length b) device_size) (own_at (device_at b) m) empty_own

-- the bytes with another own part of a module; past the last slot they stay
unfoldable pub slot_put : Own → ℕ → List ℕ → List ℕ
slot_put own m b = cond (ltb m 16) (put_at (own_bytes own) (m * own_size) b) b

-- ---- what is proved of them

-- own parts as the code's types can hold them, without a NaN
abbrev pub OwnsEncodable : List Own → Type 0
OwnsEncodable [] = Unit {0}
OwnsEncodable (own ∷ owns) = OwnEncodable own × OwnsEncodable owns

pub record DeviceEncodable (d : Device) : Type 0 where
  pub owns : OwnsEncodable d.modules
  pub modules : length d.modules ≡ 16
  pub supervisors : length d.supervisors ≡ 32
  pub states : Bytes d.supervisors

pub record DeviceParts : Type 0 where
  -- decoding what was encoded gives it back
  pub stands : (d : Device) → DeviceEncodable d → is_device (device_bytes d) ≡ true
  pub back : (d : Device) → DeviceEncodable d → device_at (device_bytes d) ≡ d
  -- and bytes that stand for a device are those of that device
  pub written : (b : List ℕ) → Bytes b → is_device b ≡ true → device_bytes (device_at b) ≡ b
  pub size : (d : Device) → DeviceEncodable d → length (device_bytes d) ≡ device_size
  -- a call puts one slot, and a turn that fires an event also the supervisors' states behind the slots
  pub put : (b : List ℕ) (m : ℕ) (own : Own) → Bytes b → is_device b ≡ true → length own.queue ≡ 8
      → device_put (with_own (device_at b) m own) b ≡ slot_put own m b
  pub moved : (b : List ℕ) (m : ℕ) (own : Own) (states : List ℕ)
      → Bytes b → is_device b ≡ true → length own.queue ≡ 8 → length states ≡ 32
      → device_put (record { modules = set (device_at b).modules m own; supervisors = states }) b ≡ put_at states slots_size (slot_put own m b)
  pub unfit : (rs : List Record) → device_fits rs unfit_device ≡ false
