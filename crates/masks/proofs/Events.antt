-- Masks made bit by bit from below, and what their bits mean.
use mathlib.Core.Path.{◌≡◌, refl, sym, ap, ap₂, ◌∙◌, subst}
use mathlib.Core.List.{List}
use mathlib.Core.Bool.{Bool, true, false, cond, not, ◌&&◌, and_comm}
use Prim.Native.Nat.{ℕ, zero, suc, ◌+◌, ◌-◌, ◌/◌, ◌^◌, ◌≤◌, ◌<◌}
use native.Mathlib.Numerals.{add-one}
use native.Mathlib.Omega.{arith}
use lib.Dec.{eqb, ltb}
use lib.Bits.{bit_and, bit_or}
use borrow.Author.Tests.{lt-ltb, le-ltb, ltb-true, ltb-false}
use Rattle.std.specs.Prelude.{min, Option, Some, None, is_some}
use Rattle.std.proofs.Math.Nat.{le-min}
use Rattle.bits.specs.Bit.{bit, mask_of}
use Rattle.bits.proofs.Laws.{bit_above, shr_none}
use Rattle.bits.proofs.Mask.{mask_bit, mask_small, mask_is, common_is}
use Rattle.records.specs.Key.{key_by}
use Rattle.records.specs.declared.Record.{Record}
use Rattle.reader.specs.Find.{find_in, found}
use Rattle.places.specs.Places.{moves_of}
use Rattle.rules.specs.LookUp.{events_of, supervisors_of, owner_of, controllable, alphabet_of}
use Rattle.plan.specs.Plan.{target, module_move, has_command, commands, commands_among, own_event, neighbour, neighbours}

-- ---- a mask from below

-- one bit more
pub one_bit : (p : ℕ → Bool) (v : ℕ) {x y : ℕ} {b : Bool} → x ≡ mask_of p v → b ≡ p v → y ≡ cond b (bit_or x (2 ^ v)) x → y ≡ mask_of p (v + 1)
unfolding mask_of
one_bit p v e f g = g ∙ ap₂ (λ (b : Bool) (x : ℕ). cond b (bit_or x (2 ^ v)) x) f e ∙ sym (ap (mask_of p) (add-one v))

-- numbers that do not pass the test add nothing
no_bits : (p : ℕ → Bool) (v k : ℕ) → ((j : ℕ) → v ≤ j → j < k + v → p j ≡ false) → mask_of p (k + v) ≡ mask_of p v
unfolding mask_of
no_bits p v zero f = ap (mask_of p) (let q : 0 + v ≡ v = omega arith in q)
no_bits p v (suc k) f =
    ap (mask_of p) (let q : suc k + v ≡ suc (k + v) = omega arith in q)
    ∙ ap (λ (b : Bool). cond b (bit_or (mask_of p (k + v)) (2 ^ (k + v))) (mask_of p (k + v))) (f (k + v) (omega arith) (omega arith))
    ∙ no_bits p v k (λ j l h. f j l (omega arith))

module _ (p : ℕ → Bool) (n v : ℕ) {x : ℕ} (e : x ≡ mask_of p v) (h : v ≤ n) where
  pub all_bits : n ≤ v → x ≡ mask_of p n
  all_bits l = e ∙ ap (mask_of p) (let q : v ≡ n = omega arith in q)

  pub rest_bits : ((j : ℕ) → v ≤ j → j < n → p j ≡ false) → x ≡ mask_of p n
  rest_bits f = e ∙ sym (no_bits p v (n - v) (λ j l g. f j l (omega arith))) ∙ ap (mask_of p) (let q : n - v + v ≡ n = omega arith in q)

-- tests that agree below n have the same mask
pub mask_same : (p q : ℕ → Bool) (n : ℕ) → ((j : ℕ) → j < n → p j ≡ q j) → mask_of p n ≡ mask_of q n
mask_same p q n f =
    mask_is q n (mask_of p n) (mask_small p n n (omega arith)) (λ j l. mask_bit p n j ∙ ap (λ (b : Bool). b && p j) (lt-ltb j n l) ∙ f j l)

-- what stands past a count
past_count : (b : ℕ → Bool) (n v k : ℕ) → n ≤ v → (j : ℕ) → v ≤ j → j < k → (ltb j n && b j) ≡ false
past_count b n v k h j l g = ap (λ (t : Bool). t && b j) (le-ltb j n (let q : n ≤ j = omega arith in q))

-- what stands past the lesser of a count and a mask's size
past_least : (n k v j : ℕ) → min n k ≤ v → v ≤ j → j < k → n ≤ j
past_least n k v j h l g = go (ltb j n) refl
  where
    go : (b : Bool) → ltb j n ≡ b → n ≤ j
    go true q = absurd (omega (arith, le-min {k = suc j} {a = n} {b = k} (ltb-true j n q) g))
    go false q = ltb-false j n q

within_count : (b : ℕ → Bool) (n v : ℕ) → v < n → b v ≡ (ltb v n && b v)
within_count b n v h = sym (ap (λ (t : Bool). t && b v) (lt-ltb v n h))

-- ---- commands

found_target : (x : Option Record) → found x ≡ is_some (target x)
unfolding found target
found_target (Some r) = refl
found_target None = refl

-- a test of which the second part is asked for only where the first is passed
module _ {a x : Bool} (e : a ≡ x) (y : Bool) where
  pub second_asked : {b : Bool} → a ≡ true → b ≡ y → b ≡ (x && y)
  second_asked f g = g ∙ ap (λ (t : Bool). t && y) (sym f ∙ e)

  pub second_spared : a ≡ false → false ≡ (x && y)
  second_spared f = ap (λ (t : Bool). t && y) (sym f ∙ e)

-- the commands among moves
abbrev pub is_command : List Record → ℕ → ℕ → Bool
is_command rs moves e = bit moves e && controllable rs e

-- none past the last move
pub commands_end : (rs : List Record) (moves e : ℕ) {x : ℕ} → moves / 2 ^ e ≡ 0 → e ≤ 64 → x ≡ mask_of (is_command rs moves) e → x ≡ commands_among rs moves
commands_end rs moves e z h g =
    rest_bits (is_command rs moves) 64 e g h (λ j l v. ap (λ (b : Bool). b && controllable rs j) (bit_above e moves j (shr_none moves e z) l))

-- the moves of a module's state are the bits of their mask, and the commands among them are those of the state
module _ (rs : List Record) (m st : ℕ) where
  pub move_bit : (e : ℕ) → bit (moves_of rs m st) e ≡ (ltb e 64 && is_some (module_move rs m st e))
  move_bit e =
      mask_bit (λ j. found (find_in (key_by 0x13 m st j) rs)) 64 e ∙ ap (λ (b : Bool). ltb e 64 && b) (found_target (find_in (key_by 0x13 m st e) rs))

  pub commands_of : {moves : ℕ} → moves ≡ moves_of rs m st → commands_among rs moves ≡ commands rs m st
  commands_of f =
      ap (commands_among rs) f
      ∙ mask_same (is_command rs (moves_of rs m st)) (has_command rs m st) 64
      (λ e l. and_comm (bit (moves_of rs m st) e) (controllable rs e) ∙ ap (λ (b : Bool). controllable rs e && b) (move_bit e ∙ ap (λ (b : Bool). b && is_some (module_move rs m st e)) (lt-ltb e 64 l)))

-- ---- a module's events

module _ (rs : List Record) (m e : ℕ) {n x : ℕ} (k : n ≡ events_of rs) (f : x ≡ mask_of (own_event rs m) e) where
  pub own_bit : {y o : ℕ} → e < n → o ≡ owner_of rs e → y ≡ cond (eqb o m) (bit_or x (2 ^ e)) x → y ≡ mask_of (own_event rs m) (e + 1)
  own_bit h g q =
      one_bit (own_event rs m) e f
      (ap (λ (z : ℕ). eqb z m) g ∙ within_count (λ j. eqb (owner_of rs j) m) (events_of rs) e (subst (λ (z : ℕ). e < z) k h)) q

  pub own_rest : e ≤ 64 → min n 64 ≤ e → x ≡ mask_of (own_event rs m) 64
  own_rest l h =
      rest_bits (own_event rs m) 64 e f l
      (λ j a b. past_count (λ i. eqb (owner_of rs i) m) (events_of rs) j 64 (subst (λ (z : ℕ). z ≤ j) k (past_least n 64 e j h a b)) j (omega arith) b)

-- ---- neighbours

pub neighbour_is : {own a : ℕ} → a < 2 ^ 64 → (rs : List Record) (m v : ℕ) → own ≡ mask_of (own_event rs m) 64 → a ≡ alphabet_of rs v → not (eqb (bit_and a own) 0) ≡ neighbour rs m v
neighbour_is f rs m v w k =
    ap₂ (λ (x y : ℕ). not (eqb (bit_and x y) 0)) k w
    ∙ common_is (λ e. eqb (owner_of rs e) m) 64 (events_of rs) (alphabet_of rs v) (subst (λ (x : ℕ). x < 2 ^ 64) k f)

abbrev pub is_neighbour : List Record → ℕ → ℕ → Bool
is_neighbour rs m v = ltb v (supervisors_of rs) && neighbour rs m v

module _ (rs : List Record) (m v : ℕ) {n x : ℕ} (k : n ≡ supervisors_of rs) (f : x ≡ mask_of (is_neighbour rs m) v) where
  pub neighbour_bit : {y : ℕ} {b : Bool} → v < n → b ≡ neighbour rs m v → y ≡ cond b (bit_or x (2 ^ v)) x → y ≡ mask_of (is_neighbour rs m) (v + 1)
  neighbour_bit h g q =
      one_bit (is_neighbour rs m) v f (g ∙ within_count (neighbour rs m) (supervisors_of rs) v (subst (λ (z : ℕ). v < z) k h)) q

  pub neighbour_rest : v ≤ 32 → min n 32 ≤ v → x ≡ neighbours rs m
  neighbour_rest l h =
      rest_bits (is_neighbour rs m) 32 v f l
      (λ j a b. past_count (neighbour rs m) (supervisors_of rs) j 32 (subst (λ (z : ℕ). z ≤ j) k (past_least n 32 v j h a b)) j (omega arith) b)

pub small_mask : (p : ℕ → Bool) (v : ℕ) {x : ℕ} → x ≡ mask_of p v → v ≤ 32 → x < 2 ^ 32
small_mask p v f l = subst (λ (z : ℕ). z < 2 ^ 32) (sym f) (mask_small p v 32 l)
