-- The lowest number that passes a test, and the lowest bit of a mask.
use Rattle.std.specs.Prelude.{Option, Some, None, is_some}
use Prim.Native.Nat.{ℕ, zero, suc, ◌+◌, ◌≤◌, ◌<◌}
use native.Mathlib.Nat.{not-suc-le-zero, le_of_suc-le-suc, eq-or-lt_of_le, lt_of_lt_of_le}
use native.Mathlib.Omega.{arith}
use mathlib.Core.Path.{◌≡◌, refl, sym, ap, ap₂, ◌∙◌, subst}
use mathlib.Core.Logic.{⊎_elim}
use lib.Count.{count_trailing_zeros}
use lib.Dec.{ltb}
use borrow.Author.Tests.{ltb-true, ltb-false}
use mathlib.Core.Bool.{Bool, true, false, ◌||◌, true≢false}
use Rattle.bits.specs.Bit.{bit, least, or_else, some_below}
use Rattle.bits.proofs.Laws.{lowest}

pub record Lowest (p : ℕ → Bool) (n e : ℕ) : Type 0 where
  pub below : e < n
  pub passes : p e ≡ true
  pub first : (j : ℕ) → j < e → p j ≡ false

-- no number below n passes where there is no lowest
pub least_none : (p : ℕ → Bool) (n : ℕ) → least p n ≡ None → (j : ℕ) → j < n → p j ≡ false
unfolding least or_else
least_none p zero e j h = absurd (not-suc-le-zero h)
least_none p (suc n) e j h = go (least p n) (p n) refl refl e (least_none p n)
  where
    go : (o : Option ℕ) (b : Bool) → least p n ≡ o → p n ≡ b → or_else o b n ≡ None → (least p n ≡ None → (j : ℕ) → j < n → p j ≡ false) → p j ≡ false
    go (Some i) b s t z f = let y : ◌≡◌ {A = ℕ} 0 1 = cc in absurd (omega arith)
    go None true s t z f = let y : ◌≡◌ {A = ℕ} 0 1 = cc in absurd (omega arith)
    go None false s t z f = ⊎_elim (λ i. ap p i ∙ t) (λ l. f s j l) (eq-or-lt_of_le (le_of_suc-le-suc h))

pub least_some : (p : ℕ → Bool) (n e : ℕ) → least p n ≡ Some e → Lowest p n e
unfolding least or_else
least_some p zero e q = let y : ◌≡◌ {A = ℕ} 0 1 = cc in absurd (omega arith)
least_some p (suc n) e q = go (least p n) (p n) refl refl q (least_some p n e)
  where
    go : (o : Option ℕ) (b : Bool) → least p n ≡ o → p n ≡ b → or_else o b n ≡ Some e → (least p n ≡ Some e → Lowest p n e) → Lowest p (suc n) e
    go (Some i) b s t z f = let l = f (s ∙ z) in record { below = omega arith; passes = l.passes; first = l.first }
    go None true s t z f = let h : n ≡ e = cc in subst (Lowest p (suc n)) h (record { below = omega arith; passes = t; first = least_none p n s })
    go None false s t z f = let y : ◌≡◌ {A = ℕ} 0 1 = cc in absurd (omega arith)

-- where one passes there is a lowest
pub least_find : (p : ℕ → Bool) (n j : ℕ) → j < n → p j ≡ true → (i : ℕ) × (least p n ≡ Some i)
least_find p n j h e = go (least p n) refl
  where
    go : (o : Option ℕ) → least p n ≡ o → (i : ℕ) × (least p n ≡ Some i)
    go None q = absurd (true≢false (sym e ∙ least_none p n q j h))
    go (Some i) q = (i, q)

-- a lowest number is the lowest, and where none passes there is none
pub least_of : (p : ℕ → Bool) (n e : ℕ) → Lowest p n e → least p n ≡ Some e
least_of p n e l = go (least_find p n e l.below l.passes)
  where
    same : (i : ℕ) → Lowest p n i → (a b : Bool) → ltb i e ≡ a → ltb e i ≡ b → i ≡ e
    same i k true b g h = absurd (true≢false (sym k.passes ∙ l.first i (ltb-true i e g)))
    same i k false true g h = absurd (true≢false (sym l.passes ∙ k.first e (ltb-true e i h)))
    same i k false false g h = omega (arith, ltb-false i e g, ltb-false e i h)

    go : (i : ℕ) × (least p n ≡ Some i) → least p n ≡ Some e
    go (i, q) = q ∙ ap Some (same i (least_some p n i q) (ltb i e) (ltb e i) refl refl)

pub least_absent : (p : ℕ → Bool) (n : ℕ) → ((j : ℕ) → j < n → p j ≡ false) → least p n ≡ None
least_absent p n h = go (least p n) refl
  where
    go : (o : Option ℕ) → least p n ≡ o → least p n ≡ None
    go None q = q
    go (Some i) q = let l = least_some p n i q in absurd (true≢false (sym l.passes ∙ h i l.below))

-- the lowest bit of a mask of k bits is the count of trailing zeros, which is k where there is none
pub lowest_some : (k m : ℕ) → count_trailing_zeros k m < k → Some (count_trailing_zeros k m) ≡ least (bit m) k
lowest_some k m h =
    let l = lowest k m in
    sym (least_of (bit m) k (count_trailing_zeros k m) (record { below = h; passes = l.set h; first = l.below }))

pub lowest_none : (k m : ℕ) → k ≤ count_trailing_zeros k m → None ≡ least (bit m) k
lowest_none k m h = sym (least_absent (bit m) k (λ j b. (lowest k m).below j (lt_of_lt_of_le b h)))

-- tests that agree below n have the same lowest
pub least_same : (p q : ℕ → Bool) (n : ℕ) → ((j : ℕ) → j < n → p j ≡ q j) → least p n ≡ least q n
unfolding least
least_same p q zero h = refl
least_same p q (suc n) h = ap₂ (λ (o : Option ℕ) (b : Bool). or_else o b n) (least_same p q n (λ j l. h j (omega arith))) (h n (omega arith))

-- a test that fails from n on has the same lowest below n + k
pub least_more : (p : ℕ → Bool) (n k : ℕ) → ((j : ℕ) → n ≤ j → p j ≡ false) → least p (k + n) ≡ least p n
least_more p n zero h = ap (least p) (let e : 0 + n ≡ n = omega arith in e)
least_more p n (suc k) h = ap (least p) (let e : suc k + n ≡ suc (k + n) = omega arith in e) ∙ one ∙ least_more p n k h
  where
    over : (o : Option ℕ) → or_else o false (k + n) ≡ o
    over None = unfold or_else in refl
    over (Some i) = unfold or_else in refl

    one : least p (suc (k + n)) ≡ least p (k + n)
    one = unfold least in (ap (λ (b : Bool). or_else (least p (k + n)) b (k + n)) (h (k + n) (omega arith)) ∙ over (least p (k + n)))

-- some number passes where there is a lowest
pub some_least : (p : ℕ → Bool) (n : ℕ) → some_below p n ≡ is_some (least p n)
unfolding some_below least
some_least p zero = refl
some_least p (suc n) = ap (λ (b : Bool). p n || b) (some_least p n) ∙ go (p n) (least p n)
  where
    go : (b : Bool) (o : Option ℕ) → (b || is_some o) ≡ is_some (or_else o b n)
    go true None = unfold or_else in refl
    go true (Some i) = unfold or_else in refl
    go false None = unfold or_else in refl
    go false (Some i) = unfold or_else in refl
