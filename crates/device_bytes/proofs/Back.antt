-- The bytes of a device are read as it, and bytes read as a device are its bytes.
use mathlib.Core.Path.{◌≡◌, refl, sym, ap, ap₂, ◌∙◌, subst}
use mathlib.Core.List.{List, [], ◌∷◌, ◌++◌, append_assoc}
use mathlib.Core.Bool.{Bool, true, false, cond, ◌&&◌}
use Prim.Native.Nat.{ℕ, zero, suc, ◌+◌, ◌*◌, ◌≤◌, ◌<◌}
use native.Mathlib.Nat.{add-zero, add-suc, zero-add}
use native.Mathlib.Omega.{arith}
use lib.ListN.{length, get_or, drop, length-append}
use lib.Dec.{T, eqb, ltb, lit<}
use lib.Seq.{get_or-drop, drop_at}
use lib.Ieee.Bits.{is_true}
use borrow.Author.Tests.{eq-eqb, eqb-true}
use Rattle.bits.specs.Bit.{all_below}
use Rattle.bits.proofs.Laws.{all_at, all_of}
use Rattle.records.specs.declared.Record.{Record}
use Rattle.roundtrip.specs.Fits.{Bytes, Byte}
use Rattle.rules.specs.LookUp.{modules_of}
use Rattle.modules.specs.declared.Own.{Own}
use Rattle.modules.specs.Fits.{own_fits, own_empty}
use Rattle.words.specs.Lists.{list_from}
use Rattle.device_states.specs.States.{own_slot_fits, state_slot_fits, device_fits}
use Rattle.device_states.specs.declared.Device.{Device}
use Rattle.words.proofs.Lists.{same_slots}
use Rattle.bits.proofs.Below.{one_fails}
use Rattle.fields.specs.Fields.{bytes_from}
use Rattle.fields.proofs.Back.{and_left, and_right, from_all, from_add}
use Rattle.own_bytes.specs.Own.{own_size, own_bytes, own_of, is_own, unfit_own, OwnEncodable}
use Rattle.own_bytes.proofs.Parts.{own_parts}
use Rattle.device_bytes.specs.Device.{slots_size, device_size, owns_bytes, device_bytes, slot_of, state_byte, device_at, is_slot, is_device, unfit_device, OwnsEncodable, DeviceEncodable}

-- ---- decoding what was encoded

pub owns_size : (l : List Own) → OwnsEncodable l → length (owns_bytes l) ≡ length l * own_size
unfolding owns_bytes
owns_size [] h = refl
owns_size (x ∷ l) h = omega (arith, length-append (own_bytes x) (owns_bytes l), own_parts.size x h.0.cells, owns_size l h.1)

-- own parts behind other bytes p, which are i own parts long
module _ (rest : List ℕ) where
  module _ (x : Own) (l : List Own) (p : List ℕ) where
    again : p ++ ((own_bytes x ++ owns_bytes l) ++ rest) ≡ (p ++ own_bytes x) ++ (owns_bytes l ++ rest)
    again = ap (λ (y : List ℕ). p ++ y) (append_assoc (own_bytes x) (owns_bytes l) rest) ∙ sym (append_assoc p (own_bytes x) (owns_bytes l ++ rest))

    here : (i : ℕ) → length p ≡ i * own_size → drop (i * own_size) (p ++ ((own_bytes x ++ owns_bytes l) ++ rest)) ≡ own_bytes x ++ (owns_bytes l ++ rest)
    here i e = drop_at p ((own_bytes x ++ owns_bytes l) ++ rest) (i * own_size) e ∙ append_assoc (own_bytes x) (owns_bytes l) rest

    further : (i : ℕ) → OwnEncodable x → length p ≡ i * own_size → length (p ++ own_bytes x) ≡ suc i * own_size
    further i h e = omega (arith, length-append p (own_bytes x), own_parts.size x h.cells)

  slots_back : (l : List Own) (p : List ℕ) (i : ℕ) → length p ≡ i * own_size → OwnsEncodable l → list_from (slot_of (p ++ (owns_bytes l ++ rest))) i (length l) ≡ l
  unfolding list_from owns_bytes slot_of
  slots_back [] p i e h = refl
  slots_back (x ∷ l) p i e h =
      ap₂ (λ (y : Own) (ys : List Own). y ∷ ys)
      (ap own_of (here x l p i e) ∙ (own_parts.read x (owns_bytes l ++ rest) h.0).back)
      (ap (λ (z : List ℕ). list_from (slot_of z) (suc i) (length l)) (again x l p) ∙ slots_back l (p ++ own_bytes x) (suc i) (further x l p i h.0 e) h.1)

  slots_stand : (l : List Own) (p : List ℕ) (i : ℕ) → length p ≡ i * own_size → OwnsEncodable l → (k : ℕ) → k < length l → is_slot (p ++ (owns_bytes l ++ rest)) (i + k) ≡ true
  unfolding owns_bytes is_slot
  slots_stand [] p i e h k b = absurd (omega arith)
  slots_stand (x ∷ l) p i e h zero b =
      ap (λ (j : ℕ). is_own (drop (j * own_size) (p ++ ((own_bytes x ++ owns_bytes l) ++ rest)))) (add-zero i)
      ∙ ap is_own (here x l p i e) ∙ (own_parts.read x (owns_bytes l ++ rest) h.0).stands
  slots_stand (x ∷ l) p i e h (suc k) b =
      let j : i + suc k ≡ suc i + k = omega arith in
      ap₂ (λ (z : List ℕ) (n : ℕ). is_slot z n) (again x l p) j ∙ slots_stand l (p ++ own_bytes x) (suc i) (further x l p i h.0 e) h.1 k (omega arith)

from_same : {A : Type 0} (f g : ℕ → A) → ((v : ℕ) → f v ≡ g v) → (i n : ℕ) → list_from f i n ≡ list_from g i n
unfolding list_from
from_same f g e i zero = refl
from_same f g e i (suc n) = ap₂ ◌∷◌ (e i) (from_same f g e (suc i) n)

module _ (d : Device) (h : DeviceEncodable d) where
  owns_length : length (owns_bytes d.modules) ≡ slots_size
  owns_length = omega (arith, owns_size d.modules h.owns, h.modules)

  pub device_size_lem : length (device_bytes d) ≡ device_size
  unfolding device_bytes
  device_size_lem = omega (arith, length-append (owns_bytes d.modules) d.supervisors, owns_length, h.supervisors)

  pub device_stands : is_device (device_bytes d) ≡ true
  unfolding is_device device_bytes
  device_stands =
      let b : List ℕ = device_bytes d in
      let slot : (k : ℕ) → k < 16 → T (is_slot b k) = λ k l.
      subst T (sym (ap (is_slot b) (sym (zero-add k)) ∙ slots_stand d.supervisors d.modules [] 0 refl h.owns k (omega (arith, l, h.modules)))) tt in
      ap₂ ◌&&◌ (eq-eqb (length b) device_size device_size_lem) (is_true (all_below (is_slot b) 16) (all_of (is_slot b) 16 slot))

  state_back : (v : ℕ) → state_byte (device_bytes d) v ≡ get_or d.supervisors v 0
  unfolding state_byte device_bytes
  state_back v = sym (get_or-drop slots_size (device_bytes d) v 0) ∙ ap (λ (s : List ℕ). get_or s v 0) (drop_at (owns_bytes d.modules) d.supervisors slots_size owns_length)

  pub device_back : device_at (device_bytes d) ≡ d
  unfolding device_bytes
  device_back =
      ap₂ (λ (x : List Own) (y : List ℕ). record { modules = x; supervisors = y })
      (ap (list_from (slot_of (device_bytes d)) 0) (sym h.modules) ∙ slots_back d.supervisors d.modules [] 0 refl h.owns)
      (from_same (state_byte (device_bytes d)) (λ v. get_or d.supervisors v 0) state_back 0 32 ∙ ap (list_from (λ v. get_or d.supervisors v 0) 0) (sym h.supervisors) ∙ same_slots 0 d.supervisors)

-- ---- encoding what was decoded

from_drop : (k : ℕ) (b : List ℕ) (o n : ℕ) → bytes_from (drop k b) o n ≡ bytes_from b (k + o) n
unfolding bytes_from
from_drop k b o zero = refl
from_drop k b o (suc n) = ap₂ ◌∷◌ (get_or-drop k b o 0) (from_drop k b (suc o) n ∙ ap (λ (j : ℕ). bytes_from b j n) (add-suc k o))

module _ (b : List ℕ) (g : Bytes b) (all : (k : ℕ) → k < 16 → is_slot b k ≡ true) where
  slot_written : (i : ℕ) → i < 16 → own_bytes (slot_of b i) ≡ bytes_from b (i * own_size) own_size
  unfolding slot_of is_slot
  slot_written i h =
      let bytes : Bytes (drop (i * own_size) b) = λ j. subst Byte (sym (get_or-drop (i * own_size) b j 0)) (g (i * own_size + j)) in
      own_parts.written (drop (i * own_size) b) bytes (all i h) ∙ from_drop (i * own_size) b 0 own_size ∙ ap (λ (j : ℕ). bytes_from b j own_size) (add-zero (i * own_size))

  slots_written : (n i : ℕ) → i + n ≤ 16 → owns_bytes (list_from (slot_of b) i n) ≡ bytes_from b (i * own_size) (n * own_size)
  unfolding owns_bytes list_from bytes_from
  slots_written zero i h = refl
  slots_written (suc n) i h =
      let j : suc i * own_size ≡ i * own_size + own_size = omega arith in
      let k : own_size + n * own_size ≡ suc n * own_size = omega arith in
      ap₂ (λ (x y : List ℕ). x ++ y) (slot_written i (omega arith)) (slots_written n (suc i) (omega arith) ∙ ap (λ (p : ℕ). bytes_from b p (n * own_size)) j)
      ∙ sym (from_add b (i * own_size) own_size (n * own_size)) ∙ ap (bytes_from b (i * own_size)) k

states_written : (b : List ℕ) → list_from (state_byte b) 0 32 ≡ bytes_from b slots_size 32
unfolding list_from state_byte bytes_from
states_written b = refl

pub device_written : (b : List ℕ) → Bytes b → is_device b ≡ true → device_bytes (device_at b) ≡ b
unfolding is_device device_bytes
device_written b g h =
    let L : Bool = eqb (length b) device_size in
    let A : Bool = all_below (is_slot b) 16 in
    let l : length b ≡ device_size = eqb-true (length b) device_size (and_left L A h) in
    let a : A ≡ true = and_right L A h in
    let all : (k : ℕ) → k < 16 → is_slot b k ≡ true = λ k m. is_true (is_slot b k) (all_at (is_slot b) 16 (subst T (sym a) tt) k m) in
    ap₂ (λ (x y : List ℕ). x ++ y) (slots_written b g all 16 0 (omega arith)) (states_written b)
    ∙ sym (from_add b 0 slots_size 32) ∙ ap (bytes_from b 0) (sym l) ∙ from_all b

-- ---- a device that fits no plan

pub device_unfit : (rs : List Record) → device_fits rs unfit_device ≡ false
unfolding device_fits own_slot_fits
device_unfit rs = ap (λ (t : Bool). t && all_below (state_slot_fits rs unfit_device.supervisors) 32) (sym (one_fails (own_slot_fits rs unfit_device) 16 0 first refl (lit< tt)))
  where
    either : (t : Bool) → cond t (own_fits rs 0 unfit_own) (own_empty unfit_own) ≡ false
    either true = own_parts.unfit rs 0
    either false = own_parts.unfit_empty

    first : false ≡ own_slot_fits rs unfit_device 0
    first = sym (either (ltb 0 (modules_of rs)))
