-- `Exact` of specs/Exact.antt.
use mathlib.Core.Path.{◌≡◌, refl, sym, ap, ◌∙◌, subst}
use mathlib.Core.List.{List}
use mathlib.Core.Bool.{Bool, true, false, cond, ◌&&◌}
use Prim.Native.Nat.{ℕ, zero, suc, ◌+◌, ◌*◌, ◌^◌, ◌≤◌, ◌<◌}
use native.Mathlib.Omega.{arith}
use lib.ListN.{length, get_or, drop}
use lib.Dec.{T, eqb, lit<}
use lib.Seq.{get_or-drop}
use lib.Ieee.{binary64, nan_bits}
use lib.Ieee.Bits.{is_true, of_bits-fits, nan_bits_is}
use borrow.Author.Tests.{not-true}
use Rattle.bits.specs.Bit.{all_below}
use Rattle.bits.proofs.Laws.{all_at}
use Rattle.words.specs.Word.{quad_at, word_at}
use Rattle.roundtrip.specs.Fits.{Byte, Bytes}
use Rattle.roundtrip.proofs.Shape.{word_small}
use Rattle.words.specs.Lists.{list_from}
use Rattle.fields.specs.Fields.{bytes_from, half_at, flag_of, is_flag, is_float, float_at, Number}
use Rattle.fields.proofs.Back.{and_left, and_right}
use Rattle.own_bytes.specs.Own.{own_size, procedure_of, own_of, is_own, OwnEncodable}
use Rattle.party_bytes.specs.Module.{module_size, module_at, module_bytes, module_of, is_module, unfit_module, ModuleEncodable}
use Rattle.party_bytes.specs.Supervisor.{holder_byte, holder_of, supervisor_at, supervisor_bytes, supervisor_of, unfit_supervisor, SupervisorEncodable}
use Rattle.party_bytes.proofs.Parts.{module_parts, supervisor_parts}
use Rattle.device_bytes.specs.Device.{slots_size, device_size, slot_of, state_byte, device_at, device_bytes, device_of, is_slot, is_device, unfit_device, OwnsEncodable, DeviceEncodable}
use Rattle.device_bytes.proofs.Parts.{device_parts}
use Rattle.interface_laws.specs.Exact.{Exact}
use Rattle.interface_laws.proofs.ByteLists.{bytes_none, bytes_more, bytes_listed}
use Rattle.interface_laws.proofs.Written.{module_bytes_lem, supervisor_bytes_lem, device_bytes_lem}

module _ (b : List ℕ) (g : Bytes b) where
  half_small : (o : ℕ) → half_at b o < 2 ^ 16
  unfolding half_at
  half_small o = omega (arith, g o, g (o + 1))

  quad_small : (o : ℕ) → quad_at b o < 2 ^ 32
  unfolding quad_at
  quad_small o = omega (arith, g o, g (o + 1), g (o + 2), g (o + 3))

  number_at : (o : ℕ) → is_float b o ≡ true → Number (float_at b o)
  number_at o h = record { fit = of_bits-fits binary64 (word_at b o); number = sym (nan_bits_is binary64 (word_at b o)) ∙ not-true (nan_bits binary64 (word_at b o)) h }

  range_bytes : (n o : ℕ) → Bytes (bytes_from b o n)
  unfolding bytes_from
  range_bytes zero o = bytes_none
  range_bytes (suc n) o = bytes_more (get_or b o 0) (bytes_from b (suc o) n) (g o) (range_bytes n (suc o))

  own_encodable : is_own b ≡ true → OwnEncodable (own_of b)
  unfolding is_own own_of procedure_of bytes_from
  own_encodable h =
      let F : Bool = is_flag (get_or b 10 0) in
      let A : Bool = is_float b 15 in
      let B : Bool = is_float b 23 in
      record {
        state = g 0;
        queued = g 1;
        cells = refl;
        queue = range_bytes 8 2;
        event = g 11;
        index = g 12;
        count = half_small 13;
        target = number_at 15 (and_right F A (and_left (F && A) B h));
        total = number_at 23 (and_right (F && A) B h);
        outputs = quad_small 31;
      }

  module_is : is_module b ≡ true → ModuleEncodable (module_at b)
  unfolding is_module module_at
  module_is h =
      let L : Bool = eqb (length b) module_size in
      let O : Bool = is_own b in
      let F : Bool = is_flag (get_or b (own_size + 12) 0) in
      record { own = own_encodable (and_right L O (and_left (L && O) F h)); held = quad_small own_size; received = word_small b (own_size + 4) g }

  holder_small : (out : Bool) → Byte (holder_byte (holder_of out (get_or b 4 0)))
  unfolding holder_byte holder_of
  holder_small true = g 4
  holder_small false = lit< tt

  supervisor_is : SupervisorEncodable (supervisor_at b)
  unfolding supervisor_at
  supervisor_is = record { state = g 0; noted = half_small 1; holder = holder_small (flag_of (get_or b 3 0)); last = g 5 }

module _ (b : List ℕ) (g : Bytes b) (all : (k : ℕ) → k < 16 → is_slot b k ≡ true) where
  slot_encodable : (i : ℕ) → i < 16 → OwnEncodable (slot_of b i)
  unfolding slot_of is_slot
  slot_encodable i h = own_encodable (drop (i * own_size) b) (λ j. subst Byte (sym (get_or-drop (i * own_size) b j 0)) (g (i * own_size + j))) (all i h)

  slots_encodable : (n i : ℕ) → i + n ≤ 16 → OwnsEncodable (list_from (slot_of b) i n)
  unfolding list_from
  slots_encodable zero i h = tt
  slots_encodable (suc n) i h = (slot_encodable i (omega arith), slots_encodable n (suc i) (omega arith))

device_is : (b : List ℕ) → Bytes b → is_device b ≡ true → DeviceEncodable (device_at b)
unfolding is_device list_from
device_is b g h =
    let L : Bool = eqb (length b) device_size in
    let A : Bool = all_below (is_slot b) 16 in
    let all : (k : ℕ) → k < 16 → is_slot b k ≡ true = λ k m. is_true (is_slot b k) (all_at (is_slot b) 16 (subst T (sym (and_right L A h)) tt) k m) in
    record { owns = slots_encodable b g all 16 0 (omega arith); modules = refl; supervisors = refl; states = bytes_listed (state_byte b) (λ v. unfold state_byte in g (slots_size + v)) 0 32 }

pub exact : Exact
exact =
    record {
      own = λ b g h. own_encodable b g h;
      module_encodable = λ b g h. module_is b g h;
      supervisor_encodable = λ b g h. supervisor_is b g;
      device_encodable = device_is;
      module_again = λ x h. unfold module_of in
          ap (λ (t : Bool). cond t (module_at (module_bytes x)) unfit_module) (module_parts.stands x h) ∙ module_parts.back x h;
      supervisor_again = λ y h. unfold supervisor_of in
          ap (λ (t : Bool). cond t (supervisor_at (supervisor_bytes y)) unfit_supervisor) (supervisor_parts.stands y h) ∙ supervisor_parts.back y h;
      device_again = λ d h. unfold device_of in
          ap (λ (t : Bool). cond t (device_at (device_bytes d)) unfit_device) (device_parts.stands d h) ∙ device_parts.back d h;
      module_bytes_lem = module_bytes_lem;
      supervisor_bytes_lem = supervisor_bytes_lem;
      device_bytes_lem = device_bytes_lem;
    }
