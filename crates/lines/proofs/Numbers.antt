-- Laws of numbers up to a limit.
use Rattle.std.specs.Prelude.{Option, Some, None}
use mathlib.Core.Path.{◌≡◌, refl, sym, ap, ◌∙◌}
use mathlib.Core.List.{List, [], ◌∷◌}
use mathlib.Core.Bool.{Bool, true, false, cond, not}
use Prim.Native.Nat.{ℕ, zero, suc, ◌+◌, ◌-◌, ◌*◌, ◌^◌, ◌≤◌, ◌<◌}
use native.Mathlib.Nat.{lt_of_lt_of_le, mul-le-mul_right, mul_assoc, pow-succ', one-mul, mul-one}
use native.Mathlib.Numerals.{add-one}
use native.Mathlib.Omega.{arith}
use lib.ListN.{length, get_or, drop, drop_of_length-le}
use lib.Seq.{drop-cons}
use lib.Dec.{eqb, leb}
use borrow.Author.Tests.{le-leb, lt-leb, eq-eqb, ne_eqb, leb-true, eqb-false}
use Rattle.lines.specs.Number.{digit, number_from, begins, up_to, number_up_to, number_of}

module _ (limit : ℕ) where
  -- one byte more of what is over the limit, or no digit
  further : (n b : ℕ) (bs : List ℕ) → up_to limit (number_from (n * 10 + (b - 48)) bs) ≡ None → up_to limit (number_from n (b ∷ bs)) ≡ None
  unfolding number_from up_to
  further n b bs h = go (digit b)
    where
      go : (d : Bool) → up_to limit (cond d (number_from (n * 10 + (b - 48)) bs) None) ≡ None
      go true = h
      go false = refl

  -- a number only grows
  over : (bs : List ℕ) (n : ℕ) → limit < n → up_to limit (number_from n bs) ≡ None
  unfolding number_from up_to
  over [] n h = simp (lt-leb n limit h)
  over (b ∷ bs) n h = further n b bs (over bs (n * 10 + (b - 48)) (omega arith))

  -- the loop over digits: the next byte is no digit, or one
  module _ (s : List ℕ) (i n : ℕ) {x : Option ℕ} (h : i < length s) (f : up_to limit (number_from n (drop i s)) ≡ x) where
    next : up_to limit (number_from n (get_or s i 0 ∷ drop (i + 1) s)) ≡ x
    next = rw add-one (sym (ap (λ (l : List ℕ). up_to limit (number_from n l)) (drop-cons s i 0 h)) ∙ f)

    pub digits_other : digit (get_or s i 0) ≡ false → None ≡ x
    unfolding number_from up_to
    digits_other g = simp g at next

    module _ (g : digit (get_or s i 0) ≡ true) (d : ℕ) (e : d ≡ get_or s i 0 - 48) where
      pub digits_again : up_to limit (number_from (n * 10 + d) (drop (i + 1) s)) ≡ x
      unfolding number_from
      digits_again = rw e (simp g at next)

      pub digits_over : limit < n * 10 + d → None ≡ x
      digits_over o = sym (over (drop (i + 1) s) (n * 10 + d) o) ∙ digits_again

  pub digits_done : (s : List ℕ) (i n : ℕ) {x : Option ℕ} → length s ≤ i → n ≤ limit → up_to limit (number_from n (drop i s)) ≡ x → Some n ≡ x
  unfolding number_from up_to
  digits_done s i n h k f = simp (drop_of_length-le s h, le-leb n limit k) at f

  -- a number by its first byte
  pub number_none : (s : List ℕ) → length s ≡ 0 → None ≡ number_up_to limit s
  unfolding number_up_to begins
  number_none [] h = refl
  number_none (b ∷ s) h = absurd (omega arith)

  pub number_alone : (s : List ℕ) {r : Option ℕ} → length s ≡ 1 → r ≡ up_to limit (number_from 0 s) → r ≡ number_up_to limit s
  unfolding number_up_to begins
  number_alone [] h e = absurd (omega arith)
  number_alone (b ∷ []) h e = e
  number_alone (b ∷ c ∷ s) h e = absurd (omega arith)

  pub number_zero : (s : List ℕ) → (length s ≡ 0 → ⊥) → (length s ≡ 1 → ⊥) → get_or s 0 0 ≡ 48 → None ≡ number_up_to limit s
  unfolding number_up_to begins
  number_zero [] h k e = absurd (h refl)
  number_zero (b ∷ []) h k e = absurd (k refl)
  number_zero (b ∷ c ∷ s) h k e = simp (eq-eqb b 48 e)

  pub number_more : (s : List ℕ) {r : Option ℕ} → (length s ≡ 0 → ⊥) → (length s ≡ 1 → ⊥) → (get_or s 0 0 ≡ 48 → ⊥) → r ≡ up_to limit (number_from 0 s) → r ≡ number_up_to limit s
  unfolding number_up_to begins
  number_more [] h k n e = absurd (h refl)
  number_more (b ∷ []) h k n e = absurd (k refl)
  number_more (b ∷ c ∷ s) h k n e = simp (ne_eqb b 48 n) e

  -- it is within its limit
  up_to_lem : (x : Option ℕ) {n : ℕ} → up_to limit x ≡ Some n → n ≤ limit
  unfolding up_to
  up_to_lem None e = let z : ◌≡◌ {A = ℕ} 0 1 = cc in absurd (omega arith)
  up_to_lem (Some m) {n} e = go (leb m limit) refl e
    where
      go : (b : Bool) → leb m limit ≡ b → cond b (Some m) None ≡ Some n → n ≤ limit
      go true q e = let k : m ≡ n = cc in let l : m ≤ limit = leb-true m limit q in omega arith
      go false q e = let z : ◌≡◌ {A = ℕ} 0 1 = cc in absurd (omega arith)

  pub number_within : (s : List ℕ) {n : ℕ} → number_up_to limit s ≡ Some n → n ≤ limit
  unfolding number_up_to
  number_within s {n} e = go (begins s) e
    where
      go : (b : Bool) → cond b (up_to limit (number_from 0 s)) None ≡ Some n → n ≤ limit
      go true e = up_to_lem (number_from 0 s) e
      go false e = let z : ◌≡◌ {A = ℕ} 0 1 = cc in absurd (omega arith)

  -- each digit more makes a number at least ten times as large
  grown : (k n : ℕ) (bs : List ℕ) → limit < n * 10 ^ k → k ≤ length bs → up_to limit (number_from n bs) ≡ None
  grown zero n bs h l = over bs n (rw mul-one at h)
  grown (suc k) n [] h l = absurd (omega arith)
  grown (suc k) n (b ∷ bs) h l =
      let e : limit < n * 10 * 10 ^ k = rw (mul_assoc, ← pow-succ') h in
      let m : n * 10 ≤ n * 10 + (b - 48) = omega arith in
      further n b bs (grown k (n * 10 + (b - 48)) bs (lt_of_lt_of_le e (mul-le-mul_right (10 ^ k) m)) (omega arith))

  no_digit : (a : ℕ) (bs : List ℕ) → leb 48 a ≡ false → up_to limit (number_from 0 (a ∷ bs)) ≡ None
  unfolding number_from up_to
  no_digit a bs q = simp q

  led : (k a : ℕ) (bs : List ℕ) → limit < 10 ^ k → k ≤ length bs → (a ≡ 48 → ⊥) → up_to limit (number_from 0 (a ∷ bs)) ≡ None
  led k a bs h l z = go (leb 48 a) refl
    where
      go : (b : Bool) → leb 48 a ≡ b → up_to limit (number_from 0 (a ∷ bs)) ≡ None
      go false q = no_digit a bs q
      go true q =
          let x : 48 ≤ a = leb-true 48 a q in
          let m : 1 ≤ 0 * 10 + (a - 48) = omega arith in
          let g : limit < 1 * 10 ^ k = rw one-mul h in
          further 0 a bs (grown k (0 * 10 + (a - 48)) bs (lt_of_lt_of_le g (mul-le-mul_right (10 ^ k) m)) l)

  -- so a number has at most k digits, if the limit has at most k
  pub number_long : (k : ℕ) (bs : List ℕ) → 0 < k → limit < 10 ^ k → k < length bs → number_up_to limit bs ≡ None
  unfolding number_up_to begins
  number_long k [] z h l = absurd (omega arith)
  number_long k (a ∷ []) z h l = absurd (omega arith)
  number_long k (a ∷ b ∷ bs) z h l = go (eqb a 48) refl
    where
      go : (e : Bool) → eqb a 48 ≡ e → cond (not (eqb a 48)) (up_to limit (number_from 0 (a ∷ b ∷ bs))) None ≡ None
      go true p = rw p
      go false p = rw p (led k a (b ∷ bs) h (omega arith) (eqb-false a 48 p))

-- a number up to 255
pub number_byte : (s : List ℕ) {x : Option ℕ} {n : ℕ} → x ≡ number_up_to 255 s → x ≡ Some n → n < 256
number_byte s {x} {n} p q = let k : n ≤ 255 = number_within 255 s (sym p ∙ q) in omega arith

pub number_just : (s : List ℕ) {x : Option ℕ} {n : ℕ} → x ≡ number_up_to 255 s → x ≡ Some n → Some n ≡ number_of s
unfolding number_of
number_just s p q = cc

pub number_nothing : (s : List ℕ) {x : Option ℕ} → x ≡ number_up_to 255 s → x ≡ None → None ≡ number_of s
unfolding number_of
number_nothing s p q = cc

pub byte_long : (bs : List ℕ) → 3 < length bs → number_of bs ≡ None
unfolding number_of
byte_long bs h = (number_long 255 3 bs (omega arith) (omega arith) h)
