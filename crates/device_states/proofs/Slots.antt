-- A test of every slot, as loops go through them.
use Rattle.std.specs.Prelude.{Option, Some}
use Prim.Native.Nat.{ℕ, suc, ◌+◌, ◌-◌, ◌≤◌, ◌<◌}
use native.Mathlib.Nat.{add-zero, add-suc, suc-add}
use native.Mathlib.Numerals.{add-one}
use native.Mathlib.Omega.{arith}
use mathlib.Core.Path.{◌≡◌, refl, sym, ap, ap₂, ◌∙◌}
use mathlib.Core.List.{List, [], ◌∷◌}
use mathlib.Core.Bool.{Bool, true, false, cond, ◌&&◌, and-true, and_assoc, and_comm}
use lib.ListN.{length, get_or, set, take, drop, length-drop}
use lib.Bits.{bit_or}
use lib.Dec.{eqb, ltb}
use lib.Seq.{take_all, get_or-drop}
use borrow.Author.Tests.{lt-ltb, le-ltb}
use Rattle.bits.specs.Bit.{bit, all_below}
use Rattle.bits.proofs.Laws.{bit_none}
use Rattle.bits.proofs.Below.{all_on_lem, one_fails}
use Rattle.words.specs.Word.{all_zero}
use Rattle.records.specs.declared.Record.{Record}
use Rattle.places.specs.declared.Places.{Places}
use Rattle.places.specs.Places.{count_of, numbered, records_by}
use Rattle.places.proofs.Finding.{number_missing}
use Rattle.plan.specs.Plan.{shown, supervisor_move, state_or, supervisor_after}
use Rattle.rules.specs.LookUp.{word_field, field_of, modules_of, supervisors_of, supervisor_state}
use Rattle.modules.specs.declared.Own.{Own}
use Rattle.modules.specs.Turn.{empty_own}
use Rattle.modules.specs.Fits.{own_fits, own_empty}
use Rattle.words.specs.Lists.{list_from, front}
use Rattle.words.proofs.Lists.{any_slot, front_on, front_rest}
use Rattle.device_states.specs.declared.Device.{Device}
use Rattle.device_states.specs.States.{state_of, own_slot_fits, state_slot_fits, device_fits, shown_by, state_after_turn}

-- ---- every slot below i passes

-- the slots from v on pass if they are 0
zeros_pass : (p : ℕ → Bool) (v : ℕ) (r : List ℕ) → ((j : ℕ) → j < length r → p (v + j) ≡ eqb (get_or r j 0) 0)
    → (all_below p v && all_zero r) ≡ all_below p (v + length r)
unfolding all_below all_zero
zeros_pass p v [] h = and-true (all_below p v) ∙ ap (all_below p) (sym (add-zero v))
zeros_pass p v (x ∷ r) h =
    let here : eqb x 0 ≡ p v = sym (ap p (sym (add-zero v)) ∙ h 0 (omega arith)) in
    sym (and_assoc (all_below p v) (eqb x 0) (all_zero r))
    ∙ ap (λ (t : Bool). t && all_zero r) (and_comm (all_below p v) (eqb x 0) ∙ ap (λ (t : Bool). t && all_below p v) here)
    ∙ zeros_pass p (suc v) r (λ j k. ap p (suc-add v j ∙ sym (add-suc v j)) ∙ h (suc j) (omega arith))
    ∙ ap (all_below p) (suc-add v (length r) ∙ sym (add-suc v (length r)))

-- ---- a test of every slot of a list, by a loop that reads the slot at i and is told what it answers
module _ {A : Type 0} (p : ℕ → A → Bool) (d : A) (l : List A) where
  abbrev pub slot_passes : ℕ → Bool
  slot_passes m = p m (get_or l m d)

  slot_read : (z : A) (m i : ℕ) {b : Bool} → b ≡ p m (get_or l i z) → i ≡ m → m < length l → b ≡ slot_passes m
  slot_read z m i g e h = g ∙ ap (p m) (any_slot z d l i m e h)

  slot_on : (z : A) (m i : ℕ) {b : Bool} → b ≡ p m (get_or l i z) → i ≡ m → m < length l → b ≡ true → all_below slot_passes m ≡ true → all_below slot_passes (m + 1) ≡ true
  slot_on z m i g e h = all_on_lem slot_passes m (slot_read z m i g e h)

  slot_fails : (z : A) (m i : ℕ) {b : Bool} → b ≡ p m (get_or l i z) → i ≡ m → m < length l → b ≡ false → false ≡ all_below slot_passes (length l)
  slot_fails z m i g e h f = one_fails slot_passes (length l) m (slot_read z m i g e h) f h

-- ---- the slots of modules and of supervisors, of a plan of n
module _ (rs : List Record) (n : ℕ) where
  abbrev pub own_passes : ℕ → Own → Bool
  own_passes m own = cond (ltb m n) (own_fits rs m own) (own_empty own)

  abbrev pub state_passes : ℕ → ℕ → Bool
  state_passes v st = cond (ltb v n) (supervisor_state rs v st) (eqb st 0)

  module _ (states : List ℕ) (k : length states ≡ 32) (v : ℕ) {i : ℕ} (e : i ≡ v) (h : v < 32) where
    abbrev all : ℕ → Bool
    all = all_below (slot_passes state_passes 0 states)

    module _ (l : v < n) {b : Bool} (g : b ≡ supervisor_state rs v (state_of states i)) where
      passes : b ≡ state_passes v (state_of states i)
      passes = g ∙ sym (ap (λ (t : Bool). cond t (supervisor_state rs v (state_of states i)) (eqb (state_of states i) 0)) (lt-ltb v n l))

      pub state_on : b ≡ true → all v ≡ true → all (v + 1) ≡ true
      state_on = slot_on state_passes 0 states 0 v i passes e (omega (arith, h, k))

      pub state_fails : b ≡ false → false ≡ all 32
      state_fails f = slot_fails state_passes 0 states 0 v i passes e (omega (arith, h, k)) f ∙ ap all k

    pub states_zero : n ≤ v → {b : Bool} → b ≡ all_zero (take (32 - i) (drop i states)) → all v ≡ true → b ≡ all 32
    states_zero l {b} g a =
        let from : length (drop v states) ≡ length states - v = length-drop v states in
        let to : v + length (drop v states) ≡ 32 = omega (arith, h, k) in
        g ∙ ap all_zero (take_all (32 - i) (drop i states) (omega (arith, k, length-drop i states)))
        ∙ ap (λ (j : ℕ). all_zero (drop j states)) e ∙ sym (ap (λ (t : Bool). t && all_zero (drop v states)) a)
        ∙ zeros_pass (slot_passes state_passes 0 states) v (drop v states)
        (λ j w. lacks (v + j) (omega arith) ∙ ap (λ (y : ℕ). eqb y 0) (sym (get_or-drop v states j 0)))
        ∙ ap all to
      where
        lacks : (j : ℕ) → n ≤ j → slot_passes state_passes 0 states j ≡ eqb (state_of states j) 0
        lacks j w = ap (λ (t : Bool). cond t (supervisor_state rs j (state_of states j)) (eqb (state_of states j) 0)) (le-ltb j n w)

-- the supervisors' states fit
pub states_all : (rs : List Record) (states : List ℕ) (n : ℕ) {b : Bool} → n ≡ supervisors_of rs → b ≡ all_below (slot_passes (state_passes rs n) 0 states) 32 → b ≡ all_below (state_slot_fits rs states) 32
unfolding state_slot_fits
states_all rs states n e g = g ∙ ap (λ (j : ℕ). all_below (slot_passes (state_passes rs j) 0 states) 32) e

-- the whole device fits, from the tests of its two lists
module _ (rs : List Record) (d : Device) where
  owns_all : (n : ℕ) {a : Bool} → n ≡ modules_of rs → a ≡ all_below (slot_passes (own_passes rs n) empty_own d.modules) 16 → a ≡ all_below (own_slot_fits rs d) 16
  unfolding own_slot_fits
  owns_all n e g = g ∙ ap (λ (j : ℕ). all_below (slot_passes (own_passes rs j) empty_own d.modules) 16) e

  pub device_fits_lem : (n : ℕ) {a b : Bool} → n ≡ modules_of rs → a ≡ all_below (slot_passes (own_passes rs n) empty_own d.modules) 16 → a ≡ true → b ≡ all_below (state_slot_fits rs d.supervisors) 32 → b ≡ device_fits rs d
  unfolding device_fits
  device_fits_lem n e g t h = ap₂ ◌&&◌ (sym t ∙ owns_all n e g) h

  pub owns_unfit : (n : ℕ) {a : Bool} → n ≡ modules_of rs → a ≡ all_below (slot_passes (own_passes rs n) empty_own d.modules) 16 → a ≡ false → false ≡ device_fits rs d
  unfolding device_fits
  owns_unfit n e g f = ap (λ (t : Bool). t && all_below (state_slot_fits rs d.supervisors) 32) (sym f ∙ owns_all n e g)

module _ (rs : List Record) (states : List ℕ) where
  pub shown_on : (v : ℕ) {i k x st : ℕ} → i ≡ v → st ≡ state_of states i → x ≡ shown rs v st → k ≡ shown_by rs (state_of states) v
      → bit_or k x ≡ shown_by rs (state_of states) (v + 1)
  shown_on v w e g h =
      ap₂ bit_or h (g ∙ ap (shown rs v) (e ∙ ap (state_of states) w))
      ∙ sym (ap (shown_by rs (state_of states)) (add-one v) ∙ (unfold shown_by in refl))

  -- where the event e leads a supervisor
  abbrev pub moved : ℕ → ℕ → ℕ
  moved e v = state_after_turn rs v (state_of states v) (Some e)

  module _ (k : length states ≡ 32) (e i : ℕ) {l : List ℕ} (w : l ≡ front (moved e) i states) where
    pub moved_on : (v : ℕ) {x : ℕ} → v ≡ i → x ≡ supervisor_after rs v (state_of states i) e → i < 32 → set l i x ≡ front (moved e) (i + 1) states
    moved_on v q g h =
        front_on (moved e) i states w
        (g ∙ ap (λ (j : ℕ). supervisor_after rs j (state_of states i) e) q ∙ (unfold state_after_turn in refl)) (omega (arith, k, h))

    -- the others stay
    pub moved_rest : i ≤ 32 → ((v : ℕ) → i ≤ v → v < 32 → moved e v ≡ state_of states v) → l ≡ list_from (moved e) 0 32
    moved_rest h same =
        front_rest (moved e) i states 0 w (omega (arith, k, h)) (λ v a b. same v a (omega (arith, k, b))) ∙ ap (list_from (moved e) 0) k

    pub moved_all : 32 ≤ i → i ≤ 32 → l ≡ list_from (moved e) 0 32
    moved_all h m = moved_rest m (λ v a b. absurd (omega arith))

-- a supervisor past the count of them is not found, and stays
pub stays : (s : List ℕ) (p : Places) (states : List ℕ) (e v : ℕ) → count_of s p 0x14 ≤ v → moved (records_by s p) states e v ≡ state_of states v
unfolding state_after_turn supervisor_after field_of numbered
stays s p states e v h =
    let st : ℕ = state_of states v in
    let by : Bool → ℕ = λ t. cond t (state_or (supervisor_move (records_by s p) v st e) st) st in
    ap (λ (y : Option Record). by (bit (field_of word_field y) e)) (number_missing s p 0x14 v refl h) ∙ ap by (bit_none e)
