-- The mask of the numbers that pass a test.
use Rattle.std.specs.Prelude.{Option, Some, None, is_some}
use mathlib.Core.Path.{◌≡◌, refl, sym, ap, ap₂, ◌∙◌}
use mathlib.Core.Bool.{Bool, true, false, cond, not, ◌&&◌, ◌||◌, true≢false, or-false, and-true}
use Prim.Native.Nat.{ℕ, zero, suc, ◌≤◌, ◌<◌, ◌^◌}
use native.Mathlib.Omega.{arith}
use native.Mathlib.Nat.{lt_of_le_of_lt}
use lib.Bits.{bit_and, bit_or, or_lt, and_le_l}
use lib.Pow.{pow-lt, pow_pos}
use lib.Dec.{eqb, ltb}
use borrow.Author.Tests.{lt-ltb, le-ltb, ltb-true, ltb-false, eqb-true, eqb-false, eq-eqb, ne_eqb}
use Rattle.bits.specs.Bit.{bit, mask_of, least, some_below}
use Rattle.bits.proofs.Laws.{bit_or_lem, bit_and_lem, bit_pow, bit_none, bit_above, bit_ext}
use Rattle.bits.proofs.Least.{least_none, least_some, some_least}

-- the bits of the mask are the numbers below n that pass
pub mask_bit : (p : ℕ → Bool) (n v : ℕ) → bit (mask_of p n) v ≡ (ltb v n && p v)
unfolding mask_of
mask_bit p zero v = bit_none v ∙ sym (ap (λ (b : Bool). b && p v) (le-ltb v 0 (omega arith)))
mask_bit p (suc n) v = one (mask_bit p n v) (p n) refl ∙ two (eqb v n) refl
  where
    one : bit (mask_of p n) v ≡ (ltb v n && p v) → (b : Bool) → p n ≡ b → bit (cond b (bit_or (mask_of p n) (2 ^ n)) (mask_of p n)) v ≡ ((ltb v n && p v) || (b && eqb v n))
    one ih true q = bit_or_lem (mask_of p n) (2 ^ n) v ∙ ap₂ ◌||◌ ih (bit_pow n v)
    one ih false q = ih ∙ sym (or-false (ltb v n && p v))

    two : (b : Bool) → eqb v n ≡ b → ((ltb v n && p v) || (p n && eqb v n)) ≡ (ltb v (suc n) && p v)
    two true q =
        let e : v ≡ n = eqb-true v n q in
        ap₂ (λ (a b : Bool). (a && p v) || (p n && b)) (le-ltb v n (omega arith)) q ∙ and-true (p n) ∙ ap p (sym e) ∙ sym (ap (λ (a : Bool). a && p v) (lt-ltb v (suc n) (omega arith)))
    two false q = three (ltb v n) refl
      where
        off : (a b : Bool) → (a || (b && false)) ≡ a
        off true b = refl
        off false true = refl
        off false false = refl

        three : (t : Bool) → ltb v n ≡ t → ((ltb v n && p v) || (p n && eqb v n)) ≡ (ltb v (suc n) && p v)
        three true l =
            let k : v < n = ltb-true v n l in
            ap₂ (λ (a b : Bool). (a && p v) || (p n && b)) l q ∙ off (p v) (p n) ∙ sym (ap (λ (a : Bool). a && p v) (lt-ltb v (suc n) (omega arith)))
        three false l =
            let k : n ≤ v = ltb-false v n l in
            let d : v ≡ n → ⊥ = eqb-false v n q in
            ap₂ (λ (a b : Bool). (a && p v) || (p n && b)) l q ∙ off false (p n) ∙ sym (ap (λ (a : Bool). a && p v) (le-ltb v (suc n) (omega arith)))

pub mask_small : (p : ℕ → Bool) (n k : ℕ) → n ≤ k → mask_of p n < 2 ^ k
unfolding mask_of
mask_small p zero k h = pow_pos k
mask_small p (suc n) k h = go (mask_small p n k (omega arith)) (p n)
  where
    go : mask_of p n < 2 ^ k → (b : Bool) → cond b (bit_or (mask_of p n) (2 ^ n)) (mask_of p n) < 2 ^ k
    go ih true = or_lt k (mask_of p n) (2 ^ n) ih (pow-lt (omega arith))
    go ih false = ih

-- a number of k bits with the bits of a test is the test's mask
pub mask_is : (p : ℕ → Bool) (k x : ℕ) → x < 2 ^ k → ((j : ℕ) → j < k → bit x j ≡ p j) → x ≡ mask_of p k
mask_is p k x h f =
    bit_ext k x (mask_of p k) h (mask_small p k k (omega arith)) (λ j l. f j l ∙ sym (mask_bit p k j ∙ ap (λ (b : Bool). b && p j) (lt-ltb j k l)))

-- what a mask of k bits has in common with that of a test below n
abbrev common : (ℕ → Bool) → ℕ → ℕ → ℕ → ℕ
common p k n a = bit_and a (mask_of (λ e. ltb e n && p e) k)

abbrev in_both : (ℕ → Bool) → ℕ → ℕ → Bool
in_both p a e = p e && bit a e

-- it is not 0 where some number below n passes and is in the mask
pub common_is : (p : ℕ → Bool) (k n a : ℕ) → a < 2 ^ k → not (eqb (common p k n a) 0) ≡ some_below (in_both p a) n
common_is p k n a h = go (least (in_both p a) n) refl ∙ sym (some_least (in_both p a) n)
  where
    at : (e : ℕ) → bit (common p k n a) e ≡ (bit a e && (ltb e k && (ltb e n && p e)))
    at e = bit_and_lem a (mask_of (λ e. ltb e n && p e) k) e ∙ ap (λ (b : Bool). bit a e && b) (mask_bit (λ e. ltb e n && p e) k e)

    off : (a b c d : Bool) → (c ≡ true → (d && a) ≡ false) → (a && (b && (c && d))) ≡ false
    off false b c d f = refl
    off true false c d f = refl
    off true true false d f = refl
    off true true true false f = refl
    off true true true true f = f refl

    empty : least (in_both p a) n ≡ None → common p k n a ≡ 0
    empty s =
        bit_ext k (common p k n a) 0 (lt_of_le_of_lt (and_le_l a (mask_of (λ e. ltb e n && p e) k)) h) (pow_pos k)
        (λ e l. at e ∙ off (bit a e) (ltb e k) (ltb e n) (p e) (λ t. least_none (in_both p a) n s e (ltb-true e n t)) ∙ sym (bit_none e))

    inside : (i : ℕ) → bit a i ≡ true → (b : Bool) → ltb i k ≡ b → ltb i k ≡ true
    inside i q true r = r
    inside i q false r = absurd (true≢false (sym q ∙ bit_above k a i h (ltb-false i k r)))

    hit : (i : ℕ) (t b : Bool) → p i ≡ t → bit a i ≡ b → (t && b) ≡ true → ltb i n ≡ true → bit (common p k n a) i ≡ true
    hit i true true u v w l = at i ∙ simp (u, v, l, inside i v (ltb i k) refl)
    hit i true false u v w l = absurd (true≢false (sym w))
    hit i false b u v w l = absurd (true≢false (sym w))

    go : (o : Option ℕ) → least (in_both p a) n ≡ o → not (eqb (common p k n a) 0) ≡ is_some (least (in_both p a) n)
    go None s = ap not (eq-eqb (common p k n a) 0 (empty s)) ∙ sym (ap is_some s)
    go (Some i) s =
        let l = least_some (in_both p a) n i s in
        ap not (ne_eqb (common p k n a) 0 (λ z. true≢false (sym (hit i (p i) (bit a i) refl refl l.passes (lt-ltb i n l.below)) ∙ ap (λ (y : ℕ). bit y i) z ∙ bit_none i))) ∙ sym (ap is_some s)
