-- The bytes of a device read and put, from what the code is told.
use mathlib.Core.Path.{◌≡◌, refl, sym, ap, ap₂, ◌∙◌, subst}
use mathlib.Core.List.{List, [], ◌++◌}
use mathlib.Core.Bool.{Bool, true, false, cond, ◌&&◌, and-false}
use Prim.Native.Nat.{ℕ, suc, ◌+◌, ◌*◌, ◌-◌, ◌≤◌, ◌<◌}
use native.Mathlib.Nat.{zero-add}
use native.Mathlib.Omega.{arith}
use lib.ListN.{length, get_or, take, drop, replicate, length-append, length-drop, get_or-eq_default}
use lib.Dec.{T, ltb}
use lib.Seq.{sets, sets-eq, length-sets, take_all, drop-cons, drop-length, get_or-drop, get_or-take}
use lib.Ieee.Bits.{is_true}
use borrow.Author.Tests.{eq-eqb, ne_eqb, le-leb, lt-leb, le-ltb, lt-ltb, ltb-true, ltb-false}
use Rattle.bits.specs.Bit.{all_below}
use Rattle.bits.proofs.Laws.{all_at, all_of}
use Rattle.records.specs.declared.Record.{Record}
use Rattle.words.specs.Word.{all_zero}
use Rattle.messages.specs.Message.{put_at}
use Rattle.messages.proofs.Writing.{put_sets}
use Rattle.modules.specs.declared.Own.{Own}
use Rattle.modules.specs.Turn.{empty_own}
use Rattle.modules.specs.Fits.{own_fits, own_empty}
use Rattle.words.specs.Lists.{list_from}
use Rattle.device_states.specs.declared.Device.{Device}
use Rattle.device_states.specs.States.{own_at}
use Rattle.words.proofs.Lists.{from_length, from_at}
use Rattle.bits.proofs.Below.{all_on_lem, one_fails}
use Rattle.fields.specs.Fields.{is_flag}
use Rattle.fields.proofs.Writing.{join}
use Rattle.own_bytes.specs.Own.{own_size, own_bytes, own_read}
use Rattle.own_bytes.proofs.Writing.{length_own}
use Rattle.own_bytes.proofs.Reading.{read_all, flag_fails, fits_stands, empty_stands, zero_at, zeros_stand, zeros_empty}
use Rattle.device_bytes.specs.Device.{slots_size, device_size, owns_bytes, device_bytes, device_put, slot_of, state_byte, is_slot, slot_fits, device_at, states_in, own_in, slot_put}

-- ---- read

-- the bytes from an offset, as the code lends them
tail : (o : ℕ) (s : List ℕ) → take (length s - o) (drop o s) ≡ drop o s
tail o s = take_all (length s - o) (drop o s) (omega (arith, length-drop o s))

module _ (s : List ℕ) (i : ℕ) where
  enough : length s ≡ device_size → i < 16 → own_size ≤ length (drop (i * own_size) s)
  enough l h = omega (arith, l, length-drop (i * own_size) s)

  pub slot_read : {r : Own} → length s ≡ device_size → i < 16 → r ≡ own_read (take (length s - i * own_size) (drop (i * own_size) s)) → r ≡ slot_of s i
  unfolding slot_of
  slot_read l h e = e ∙ ap own_read (tail (i * own_size) s) ∙ read_all (drop (i * own_size) s) (enough l h)

-- the slot of module m, which the code has as the index i
module _ (rs : List Record) (n : ℕ) (s : List ℕ) (m : ℕ) {i : ℕ} (w : i ≡ m) where
  flag_is : is_flag (get_or (drop (m * own_size) s) 10 0) ≡ is_flag (get_or s (i * own_size + 10) 0)
  flag_is = ap is_flag (get_or-drop (m * own_size) s 10 0 ∙ ap (λ (k : ℕ). get_or s (k * own_size + 10) 0) (sym w))

  pub fits_not : 2 ≤ get_or s (i * own_size + 10) 0 → false ≡ slot_fits rs n s m
  unfolding slot_fits is_slot
  fits_not h =
      ap (λ (t : Bool). t && cond (ltb m n) (own_fits rs m (slot_of s m)) (own_empty (slot_of s m)))
      (sym (flag_fails (drop (m * own_size) s) (flag_is ∙ le-ltb (get_or s (i * own_size + 10) 0) 2 h)))

  module _ (h : get_or s (i * own_size + 10) 0 < 2) {own : Own} (g : own ≡ slot_of s i) where
    flag : is_flag (get_or (drop (m * own_size) s) 10 0) ≡ true
    flag = flag_is ∙ lt-ltb (get_or s (i * own_size + 10) 0) 2 h

    with_stands : (a : Bool) → (T a → is_slot s m ≡ true) → a ≡ (is_slot s m && a)
    with_stands true k = sym (ap (λ (t : Bool). t && true) (k tt))
    with_stands false k = sym (and-false (is_slot s m))

    pub fits_read : {r : Bool} → m < n → r ≡ own_fits rs m own → r ≡ slot_fits rs n s m
    unfolding slot_fits is_slot slot_of
    fits_read l z =
        z ∙ ap (own_fits rs m) (g ∙ ap (slot_of s) w) ∙ with_stands (own_fits rs m (slot_of s m)) (fits_stands (drop (m * own_size) s) flag rs m)
        ∙ simp (lt-ltb m n l)

    pub fits_lacking : {r : Bool} → n ≤ m → r ≡ own_empty own → r ≡ slot_fits rs n s m
    unfolding slot_fits is_slot slot_of
    fits_lacking l z =
        z ∙ ap own_empty (g ∙ ap (slot_of s) w) ∙ with_stands (own_empty (slot_of s m)) (empty_stands (drop (m * own_size) s) flag) ∙ simp (le-ltb m n l)

-- the slots from that of module m on, whose bytes are 0 and which the plan lacks
pub zeros_by : (s : List ℕ) (m : ℕ) {i : ℕ} {r : Bool} → i ≡ m → r ≡ all_zero (take (slots_size - i * own_size) (drop (i * own_size) s)) → r ≡ all_zero (take (slots_size - m * own_size) (drop (m * own_size) s))
zeros_by s m w e = e ∙ ap (λ (k : ℕ). all_zero (take (slots_size - k * own_size) (drop (k * own_size) s))) w

module _ (rs : List Record) (n : ℕ) (s : List ℕ) (m : ℕ) {z : Bool} (e : z ≡ all_zero (take (slots_size - m * own_size) (drop (m * own_size) s))) (t : z ≡ true) (h : n ≤ m) where
  byte_zero : (k : ℕ) → m ≤ k → k < 16 → (i : ℕ) → i < own_size → get_or (drop (k * own_size) s) i 0 ≡ 0
  byte_zero k l b i j =
      let at : m * own_size + ((k - m) * own_size + i) ≡ k * own_size + i = omega arith in
      let within : (k - m) * own_size + i < slots_size - m * own_size = omega arith in
      get_or-drop (k * own_size) s i 0 ∙ ap (λ (x : ℕ). get_or s x 0) (sym at) ∙ sym (get_or-drop (m * own_size) s ((k - m) * own_size + i) 0)
      ∙ sym (get_or-take (slots_size - m * own_size) (drop (m * own_size) s) ((k - m) * own_size + i) 0 within) ∙ zero_at (take (slots_size - m * own_size) (drop (m * own_size) s)) (sym e ∙ t) ((k - m) * own_size + i)

  slot_zero : (k : ℕ) → m ≤ k → k < 16 → slot_fits rs n s k ≡ true
  unfolding slot_fits is_slot slot_of
  slot_zero k l b =
      let zero : (i : ℕ) → i < own_size → get_or (drop (k * own_size) s) i 0 ≡ 0 = byte_zero k l b in
      let lacks : ltb k n ≡ false = le-ltb k n (omega arith) in
      simp lacks (ap₂ ◌&&◌ (zeros_stand (drop (k * own_size) s) zero) (zeros_empty (drop (k * own_size) s) zero))

  pub slots_zero : all_below (slot_fits rs n s) m ≡ true → true ≡ all_below (slot_fits rs n s) 16
  slots_zero a =
      sym (is_true (all_below (slot_fits rs n s) 16) (all_of (slot_fits rs n s) 16 (λ k b. go (ltb k m) k b refl)))
    where
      go : (x : Bool) → (k : ℕ) → k < 16 → ltb k m ≡ x → T (slot_fits rs n s k)
      go true k b w = all_at (slot_fits rs n s) m (subst T (sym a) tt) k (ltb-true k m w)
      go false k b w = subst T (sym (slot_zero k (ltb-false k m w) b)) tt

module _ (rs : List Record) (n : ℕ) (s : List ℕ) (m : ℕ) {b : Bool} (e : b ≡ slot_fits rs n s m) where
  pub slot_on : b ≡ true → all_below (slot_fits rs n s) m ≡ true → all_below (slot_fits rs n s) (m + 1) ≡ true
  slot_on = all_on_lem (slot_fits rs n s) m e

  pub slot_fails : b ≡ false → m < 16 → false ≡ all_below (slot_fits rs n s) 16
  slot_fails = one_fails (slot_fits rs n s) 16 m e

module _ (s : List ℕ) where
  -- the own part of a module
  pub slot_at : (m : ℕ) → m < 16 → own_at (device_at s) m ≡ slot_of s m
  slot_at m h = from_at (slot_of s) 0 16 m empty_own h ∙ ap (slot_of s) (zero-add m)

  -- what a call takes
  pub states_yes : {r : List ℕ} → length s ≡ device_size → r ≡ list_from (state_byte s) 0 32 → r ≡ states_in s
  unfolding states_in
  states_yes h e = simp (eq-eqb (length s) device_size h) e

  pub states_no : (length s ≡ device_size → ⊥) → replicate 32 0 ≡ states_in s
  unfolding states_in
  states_no h = simp (ne_eqb (length s) device_size h)

  module _ (m : ℕ) {r : Own} where
    pub own_yes : {i : ℕ} → length s ≡ device_size → i ≡ m → m < 16 → r ≡ slot_of s i → r ≡ own_in s m
    unfolding own_in
    own_yes l w h e = simp (eq-eqb (length s) device_size l) (e ∙ ap (slot_of s) w ∙ sym (slot_at m h))

    pub own_past : length s ≡ device_size → 16 ≤ m → r ≡ empty_own → r ≡ own_in s m
    unfolding own_in
    own_past l h e =
        let past : own_at (device_at s) m ≡ empty_own = get_or-eq_default (list_from (slot_of s) 0 16) empty_own (omega (arith, h, from_length (slot_of s) 0 16)) in
        simp (eq-eqb (length s) device_size l) (e ∙ sym past)

    pub own_other : (length s ≡ device_size → ⊥) → r ≡ empty_own → r ≡ own_in s m
    unfolding own_in
    own_other l e = simp (ne_eqb (length s) device_size l) e

-- ---- put

pub slot_put_lem : (l : List ℕ) (i : ℕ) (own : Own) {s : List ℕ} → length own.queue ≡ 8 → i * own_size + own_size ≤ length l → s ≡ put_at (own_bytes own) (i * own_size) l → s ≡ sets l (i * own_size) (own_bytes own)
slot_put_lem l i own n h w = w ∙ put_sets (own_bytes own) (i * own_size) l (omega (arith, length_own own n))

-- the first i own parts stand there
module _ (owns : List Own) (l : List ℕ) where
  abbrev pub Slots : List ℕ → ℕ → Type 0
  Slots s i = (sets s (i * own_size) (owns_bytes (drop i owns)) ≡ sets l 0 (owns_bytes owns)) × (length (owns_bytes (drop i owns)) + i * own_size ≡ length (owns_bytes owns))

  pub slots_on : (s : List ℕ) {t : List ℕ} (i : ℕ) (d : Own) {own : Own} → length owns ≡ 16 → i < 16 → Slots s i → own ≡ get_or owns i d → (t ≡ sets s (i * own_size) (own_bytes own)) × (length (own_bytes own) ≡ own_size) → Slots t (i + 1)
  unfolding owns_bytes
  slots_on s {t} i d {own} n h v e w =
      let m : i + 1 ≡ suc i = omega arith in
      let j : (i + 1) * own_size ≡ i * own_size + length (own_bytes own) = omega (arith, w.1) in
      let rest : List ℕ = owns_bytes (drop (i + 1) owns) in
      let k : i < length owns = omega arith in
      let is : owns_bytes (drop i owns) ≡ own_bytes own ++ rest =
      ap owns_bytes (drop-cons owns i d k) ∙ ap₂ (λ (x : Own) (p : ℕ). own_bytes x ++ owns_bytes (drop p owns)) (sym e) (sym m) in (
        ap (λ (x : List ℕ). sets x ((i + 1) * own_size) rest) w.0 ∙ join s (own_bytes own) rest (i * own_size) ((i + 1) * own_size) j ∙ ap (sets s (i * own_size)) (sym is) ∙ v.0,
        (let a : length (owns_bytes (drop i owns)) ≡ length (own_bytes own ++ rest) = ap length is in omega (arith, a, length-append (own_bytes own) rest, v.1, w.1)),
      )

  pub slots_done : (s : List ℕ) (i : ℕ) → length owns ≡ i → i ≡ 16 → Slots s i → (s ≡ sets l 0 (owns_bytes owns)) × (length (owns_bytes owns) ≡ slots_size)
  unfolding owns_bytes
  slots_done s i e g v =
      let none : drop i owns ≡ [] = ap (λ (k : ℕ). drop k owns) (sym e) ∙ drop-length owns in (
        sym (ap (λ (r : List Own). sets s (i * own_size) (owns_bytes r)) none) ∙ v.0,
        (let a : length (owns_bytes (drop i owns)) ≡ 0 = ap (λ (r : List Own). length (owns_bytes r)) none in omega (arith, a, g, v.1)),
      )

pub own_put : (l : List ℕ) (m : ℕ) (own : Own) {i : ℕ} {s : List ℕ} → i ≡ m → m < 16 → s ≡ put_at (own_bytes own) (i * own_size) l → s ≡ slot_put own m l
unfolding slot_put
own_put l m own w h e = e ∙ ap (λ (k : ℕ). put_at (own_bytes own) (k * own_size) l) w ∙ simp (lt-ltb m 16 h)

pub own_stays : (l : List ℕ) (m : ℕ) (own : Own) → 16 ≤ m → l ≡ slot_put own m l
unfolding slot_put
own_stays l m own h = simp (le-ltb m 16 h)

module _ (l : List ℕ) (d : Device) where
  pub device_put_lem : {s t : List ℕ} → device_size ≤ length l → length d.supervisors ≡ 32 → s ≡ sets l 0 (owns_bytes d.modules) → length (owns_bytes d.modules) ≡ slots_size
      → t ≡ put_at d.supervisors slots_size s → t ≡ device_put d l
  unfolding device_put device_bytes
  device_put_lem {s} h n v k w =
      let a : List ℕ = owns_bytes d.modules in
      let b : List ℕ = a ++ d.supervisors in
      let at : slots_size ≡ 0 + length a = omega (arith, k) in
      let fit : 0 + length b ≤ length l = omega (arith, length-append a d.supervisors, k) in
      let room : slots_size + length d.supervisors ≤ length s = omega (arith, h, n, ap length v, length-sets l 0 a) in
      simp (le-leb device_size (length l) h)
      (w ∙ put_sets d.supervisors slots_size s room ∙ ap (λ (x : List ℕ). sets x slots_size d.supervisors) v ∙ join l a d.supervisors 0 slots_size at ∙ sets-eq b l 0 fit ∙ ap (λ (j : ℕ). b ++ drop j l) (zero-add (length b)))

  pub device_short : length l < device_size → l ≡ device_put d l
  unfolding device_put
  device_short h = simp (lt-leb device_size (length l) h)
