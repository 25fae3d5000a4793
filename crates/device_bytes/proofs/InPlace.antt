-- A call puts one slot, and the supervisors' states behind the slots, into the bytes of its device: the bytes are then those of the device
-- after it. And the bytes fit if each slot does.
use mathlib.Core.Path.{◌≡◌, refl, sym, ap, ap₂, ◌∙◌, subst}
use mathlib.Core.List.{List, [], ◌∷◌, ◌++◌, append-nil}
use mathlib.Core.Bool.{Bool, true, false, cond, ◌&&◌, true≢false}
use Prim.Native.Nat.{ℕ, zero, suc, ◌+◌, ◌*◌, ◌≤◌, ◌<◌}
use native.Mathlib.Nat.{zero-add}
use native.Mathlib.Omega.{arith}
use lib.ListN.{length, set, drop, length-append, length-set}
use lib.Dec.{T, eqb, ltb}
use lib.Seq.{sets, sets-eq, length-sets, set-append_left, set_out, drop-length}
use lib.Ieee.Bits.{is_true}
use lib.Ieee.Fits.{and_l, and_r, and_i}
use borrow.Author.Tests.{eq-eqb, ne_eqb, eqb-true, le-leb, ltb-true, ltb-false}
use Rattle.bits.specs.Bit.{all_below}
use Rattle.bits.proofs.Laws.{all_at, all_of}
use Rattle.records.specs.declared.Record.{Record}
use Rattle.roundtrip.specs.Fits.{Bytes}
use Rattle.messages.specs.Message.{put_at}
use Rattle.messages.proofs.Writing.{put_sets}
use Rattle.rules.specs.LookUp.{modules_of}
use Rattle.modules.specs.declared.Own.{Own}
use Rattle.modules.specs.Fits.{own_fits, own_empty}
use Rattle.words.specs.Lists.{list_from}
use Rattle.device_states.specs.States.{own_at, own_slot_fits, state_slot_fits, device_fits, with_own}
use Rattle.words.proofs.Lists.{from_length}
use Rattle.own_bytes.specs.Own.{own_size, own_bytes, own_of}
use Rattle.own_bytes.proofs.Writing.{length_own}
use Rattle.fields.specs.Fields.{bytes_from}
use Rattle.fields.proofs.Back.{and_left}
use Rattle.device_bytes.specs.Device.{slots_size, device_size, owns_bytes, device_bytes, device_put, slot_of, state_byte, device_at, is_slot, is_device, device_of, slot_fits, states_in, own_in, slot_put}
use Rattle.device_bytes.proofs.Laws.{slot_at}
use Rattle.device_bytes.proofs.Back.{device_written, device_unfit}

-- ---- bytes put into a list of two parts

sets_on : (y : ℕ) (l : List ℕ) (i : ℕ) (b : List ℕ) → sets (y ∷ l) (suc i) b ≡ y ∷ sets l i b
sets_on y l i [] = refl
sets_on y l i (z ∷ b) = sets_on y (set l i z) (suc i) b

-- behind the first part
sets_behind : (a r : List ℕ) (i j : ℕ) (b : List ℕ) → j ≡ length a + i → sets (a ++ r) j b ≡ a ++ sets r i b
sets_behind [] r i j b e = ap (λ (k : ℕ). sets r k b) (e ∙ zero-add i)
sets_behind (y ∷ a) r i zero b e = absurd (omega arith)
sets_behind (y ∷ a) r i (suc j) b e = sets_on y (a ++ r) j b ∙ ap (λ (l : List ℕ). y ∷ l) (sets_behind a r i j b (omega arith))

-- within it
sets_within : (a r : List ℕ) (i : ℕ) (b : List ℕ) → i + length b ≤ length a → sets (a ++ r) i b ≡ sets a i b ++ r
sets_within a r i [] h = refl
sets_within a r i (z ∷ b) h =
    let k : i < length a = omega arith in
    ap (λ (l : List ℕ). sets l (suc i) b) (set-append_left a r i z k) ∙ sets_within (set a i z) r (suc i) b (omega (arith, length-set a i z))

-- in place of a whole list
sets_whole : (l b : List ℕ) → length b ≡ length l → sets l 0 b ≡ b
sets_whole l b e =
    let h : 0 + length b ≤ length l = omega arith in
    sets-eq b l 0 h ∙ ap (λ (k : ℕ). b ++ drop k l) (zero-add (length b) ∙ e) ∙ ap (λ (r : List ℕ). b ++ r) (drop-length l) ∙ append-nil b

-- ---- one slot

module _ (b : List ℕ) (own : Own) (q : length own.queue ≡ 8) where
  slot_size : (i : ℕ) → length (own_bytes (slot_of b i)) ≡ own_size
  slot_size i = length_own (slot_of b i) (unfold slot_of own_of bytes_from in refl)

  owns_set : (n i m : ℕ) → m < n → owns_bytes (set (list_from (slot_of b) i n) m own) ≡ sets (owns_bytes (list_from (slot_of b) i n)) (m * own_size) (own_bytes own)
  unfolding owns_bytes list_from
  owns_set zero i m h = absurd (omega arith)
  owns_set (suc n) i zero h =
      let x : List ℕ = own_bytes (slot_of b i) in
      let rest : List ℕ = owns_bytes (list_from (slot_of b) (suc i) n) in
      sym
      (sets_within x rest 0 (own_bytes own) (omega (arith, length_own own q, slot_size i))
      ∙ ap (λ (l : List ℕ). l ++ rest) (sets_whole x (own_bytes own) (length_own own q ∙ sym (slot_size i))))
  owns_set (suc n) i (suc m) h =
      let x : List ℕ = own_bytes (slot_of b i) in
      let rest : List ℕ = owns_bytes (list_from (slot_of b) (suc i) n) in
      ap (λ (l : List ℕ). x ++ l) (owns_set n (suc i) m (omega arith))
      ∙ sym (sets_behind x rest (m * own_size) (suc m * own_size) (own_bytes own) (omega (arith, slot_size i)))

-- ---- the bytes of the device after a call

module _ (b : List ℕ) (g : Bytes b) (d : is_device b ≡ true) where
  size : length b ≡ device_size
  unfolding is_device
  size = eqb-true (length b) device_size (and_left (eqb (length b) device_size) (all_below (is_slot b) 16) d)

  before : owns_bytes (device_at b).modules ++ (device_at b).supervisors ≡ b
  unfolding device_bytes
  before = device_written b g d

  owns_size : length (owns_bytes (device_at b).modules) ≡ slots_size
  owns_size =
      let A : List ℕ = owns_bytes (device_at b).modules in
      omega (arith, size, ap length before, length-append A (device_at b).supervisors, from_length (state_byte b) 0 32)

  module _ (m : ℕ) (own : Own) (q : length own.queue ≡ 8) where
    abbrev after : List ℕ
    after = owns_bytes (set (device_at b).modules m own)

    -- the slots with the new one, and the states as they were
    record Put : Type 0 where
      bytes : after ++ (device_at b).supervisors ≡ slot_put own m b
      sized : length after ≡ slots_size

    slot : Put
    unfolding slot_put
    slot = go (ltb m 16) refl
      where
        A : List ℕ
        A = owns_bytes (device_at b).modules

        go : (t : Bool) → ltb m 16 ≡ t → Put
        go true e =
            let h : m < 16 = ltb-true m 16 e in
            let n : length (own_bytes own) ≡ own_size = length_own own q in
            let is : after ≡ sets A (m * own_size) (own_bytes own) = owns_set b own q 16 0 m h in
            let room : m * own_size + length (own_bytes own) ≤ length A = omega (arith, owns_size) in
            let fit : m * own_size + length (own_bytes own) ≤ length b = omega (arith, size) in
            record {
              bytes =
                  ap (λ (l : List ℕ). l ++ (device_at b).supervisors) is ∙ sym (sets_within A (device_at b).supervisors (m * own_size) (own_bytes own) room)
                  ∙ ap (λ (l : List ℕ). sets l (m * own_size) (own_bytes own)) before ∙ sym (put_sets (own_bytes own) (m * own_size) b fit) ∙ simp e;
              sized = ap length is ∙ length-sets A (m * own_size) (own_bytes own) ∙ owns_size;
            }
        go false e =
            let h : 16 ≤ m = ltb-false m 16 e in
            let is : set (device_at b).modules m own ≡ (device_at b).modules = set_out (device_at b).modules m own (omega (arith, from_length (slot_of b) 0 16)) in
            record {
              bytes = ap (λ (l : List Own). owns_bytes l ++ (device_at b).supervisors) is ∙ before ∙ simp e;
              sized = ap (λ (l : List Own). length (owns_bytes l)) is ∙ owns_size;
            }

    whole : (x : List ℕ) → length x ≡ device_size → x ++ drop (length x) b ≡ x
    whole x e = ap (λ (k : ℕ). x ++ drop k b) (e ∙ sym size) ∙ ap (λ (r : List ℕ). x ++ r) (drop-length b) ∙ append-nil x

    module _ (states : List ℕ) (n : length states ≡ 32) where
      device_put_lem : device_put (record { modules = set (device_at b).modules m own; supervisors = states }) b ≡ after ++ states
      unfolding device_put device_bytes
      device_put_lem =
          let l : device_size ≤ length b = omega (arith, size) in
          simp (le-leb device_size (length b) l) (whole (after ++ states) (omega (arith, length-append after states, slot.sized)))

      pub device_moved : device_put (record { modules = set (device_at b).modules m own; supervisors = states }) b ≡ put_at states slots_size (slot_put own m b)
      device_moved =
          let S : List ℕ = (device_at b).supervisors in
          let k : length S ≡ 32 = from_length (state_byte b) 0 32 in
          let at : slots_size ≡ length after + 0 = omega (arith, slot.sized) in
          let room : slots_size + length states ≤ length (after ++ S) = omega (arith, slot.sized, length-append after S) in
          device_put_lem ∙ ap (λ (l : List ℕ). after ++ l) (sym (sets_whole S states (n ∙ sym k))) ∙ sym (sets_behind after S 0 slots_size states at)
          ∙ sym (put_sets states slots_size (after ++ S) room) ∙ ap (put_at states slots_size) slot.bytes

    pub device_kept : device_put (with_own (device_at b) m own) b ≡ slot_put own m b
    device_kept = device_put_lem (device_at b).supervisors (from_length (state_byte b) 0 32) ∙ slot.bytes

-- ---- the bytes fit

module _ (rs : List Record) (b : List ℕ) where
  stands_not : is_device b ≡ false → false ≡ device_fits rs (device_of b)
  unfolding device_of
  stands_not e = sym (simp e (device_unfit rs))

  pub fits_other : (length b ≡ device_size → ⊥) → false ≡ device_fits rs (device_of b)
  fits_other h = stands_not (unfold is_device in ap (λ (t : Bool). t && all_below (is_slot b) 16) (ne_eqb (length b) device_size h))

  module _ (n : ℕ) (e : n ≡ modules_of rs) (l : length b ≡ device_size) where
    own_fits_lem : (m : ℕ) → m < 16 → own_slot_fits rs (device_at b) m ≡ cond (ltb m n) (own_fits rs m (slot_of b m)) (own_empty (slot_of b m))
    unfolding own_slot_fits
    own_fits_lem m h = ap₂ (λ (o : Own) (k : ℕ). cond (ltb m k) (own_fits rs m o) (own_empty o)) (slot_at b m h) (sym e)

    all_slots : T (all_below (slot_fits rs n b) 16) → T (all_below (is_slot b) 16) × T (all_below (own_slot_fits rs (device_at b)) 16)
    unfolding slot_fits
    all_slots t = (
      all_of (is_slot b) 16 (λ k h. and_l (is_slot b k) (cond (ltb k n) (own_fits rs k (slot_of b k)) (own_empty (slot_of b k))) (all_at (slot_fits rs n b) 16 t k h)),
      all_of (own_slot_fits rs (device_at b)) 16
          (λ k h. subst T (sym (own_fits_lem k h)) (and_r (is_slot b k) (cond (ltb k n) (own_fits rs k (slot_of b k)) (own_empty (slot_of b k))) (all_at (slot_fits rs n b) 16 t k h))),
    )

    slots_all : T (all_below (is_slot b) 16) → T (all_below (own_slot_fits rs (device_at b)) 16) → T (all_below (slot_fits rs n b) 16)
    unfolding slot_fits
    slots_all t u =
        all_of (slot_fits rs n b) 16
        (λ k h. and_i (is_slot b k) (cond (ltb k n) (own_fits rs k (slot_of b k)) (own_empty (slot_of b k))) (all_at (is_slot b) 16 t k h) (subst T (own_fits_lem k h) (all_at (own_slot_fits rs (device_at b)) 16 u k h)))

    is_device_lem : {t : Bool} → all_below (is_slot b) 16 ≡ t → is_device b ≡ t
    unfolding is_device
    is_device_lem w = ap₂ ◌&&◌ (eq-eqb (length b) device_size l) w

    module _ {a : Bool} (w : a ≡ all_below (slot_fits rs n b) 16) where
      pub fits_by : {x : Bool} {states : List ℕ} → a ≡ true → states ≡ list_from (state_byte b) 0 32 → x ≡ all_below (state_slot_fits rs states) 32 → x ≡ device_fits rs (device_of b)
      unfolding device_of device_fits
      fits_by t v z =
          let all = all_slots (subst T (sym t ∙ w) tt) in
          let stands : is_device b ≡ true = is_device_lem (is_true (all_below (is_slot b) 16) all.0) in
          z ∙ ap (λ (s : List ℕ). all_below (state_slot_fits rs s) 32) v
          ∙ ap (λ (u : Bool). u && all_below (state_slot_fits rs (device_at b).supervisors) 32) (sym (is_true (all_below (own_slot_fits rs (device_at b)) 16) all.1))
          ∙ simp stands

      pub fits_none : a ≡ false → false ≡ device_fits rs (device_of b)
      unfolding device_of device_fits
      fits_none f = go (all_below (is_slot b) 16) refl (all_below (own_slot_fits rs (device_at b)) 16) refl
        where
          go : (t : Bool) → all_below (is_slot b) 16 ≡ t → (u : Bool) → all_below (own_slot_fits rs (device_at b)) 16 ≡ u → false ≡ device_fits rs (device_of b)
          go false x u y = stands_not (is_device_lem x)
          go true x false y = simp (is_device_lem x) (ap (λ (v : Bool). v && all_below (state_slot_fits rs (device_at b).supervisors) 32) (sym y))
          go true x true y =
              let yes : all_below (slot_fits rs n b) 16 ≡ true = is_true (all_below (slot_fits rs n b) 16) (slots_all (subst T (sym x) tt) (subst T (sym y) tt)) in
              absurd (true≢false (sym yes ∙ sym w ∙ f))

  -- a device that fits stands for one
  pub fits_stands : {x : Bool} → x ≡ device_fits rs (device_of b) → x ≡ true → is_device b ≡ true
  fits_stands e t = go (is_device b) refl
    where
      go : (d : Bool) → is_device b ≡ d → d ≡ true
      go true w = refl
      go false w = stands_not w ∙ sym e ∙ t

-- what a call takes of bytes that stand for a device is that device's
module _ (b : List ℕ) (d : is_device b ≡ true) where
  long : eqb (length b) device_size ≡ true
  unfolding is_device
  long = and_left (eqb (length b) device_size) (all_below (is_slot b) 16) d

  pub states_taken : {r : List ℕ} → r ≡ states_in b → r ≡ (device_at b).supervisors
  unfolding states_in
  states_taken e = e ∙ simp long

  pub own_taken : (m : ℕ) {r : Own} → r ≡ own_in b m → r ≡ own_at (device_at b) m
  unfolding own_in
  own_taken m e = e ∙ simp long
