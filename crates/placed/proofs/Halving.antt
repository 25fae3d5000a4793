-- Where those that pass a test come first, halving leads no further than to the first that does not pass, and going on from there leads to it.
use Prim.Native.Nat.{ℕ, zero, suc, ◌+◌, ◌-◌, ◌/◌, ◌≤◌, ◌<◌}
use native.Mathlib.Omega.{arith}
use mathlib.Core.Path.{◌≡◌, refl, sym, ◌∙◌, subst}
use mathlib.Core.Bool.{Bool, true, false, cond, false≢true}
use lib.Dec.{ltb}
use borrow.Author.Tests.{ltb-true, ltb-false}
use Rattle.places.specs.Places.{halved, onward}

module _ (t : ℕ → Bool) (j top : ℕ) (after : (i : ℕ) → j ≤ i → i < top → t i ≡ false) where
  -- n is at least the distance of lo and hi
  pub halving_within : (n lo hi : ℕ) → lo ≤ j → hi ≤ top → halved t n lo hi ≤ j
  unfolding halved
  halving_within zero lo hi a c = a
  halving_within (suc n) lo hi a c = go (ltb lo hi) (t mid) refl refl (halving_within n)
    where
      mid : ℕ
      mid = lo + (hi - lo) / 2

      go : (p q : Bool) → ltb lo hi ≡ p → t mid ≡ q → ((l h : ℕ) → l ≤ j → h ≤ top → halved t n l h ≤ j)
          → cond p (cond q (halved t n (suc mid) hi) (halved t n lo mid)) lo ≤ j
      go true true e g f = let h : lo < hi = ltb-true lo hi e in f (suc mid) hi (past (ltb mid j) refl) c
        where
          past : (b : Bool) → ltb mid j ≡ b → suc mid ≤ j
          past true u = ltb-true mid j u
          past false u = let h : lo < hi = ltb-true lo hi e in absurd (false≢true (sym (after mid (ltb-false mid j u) (omega arith)) ∙ g))
      go true false e g f = let h : lo < hi = ltb-true lo hi e in f lo mid a (omega arith)
      go false q e g f = a

module _ (t : ℕ → Bool) (j : ℕ) (before : (i : ℕ) → i < j → t i ≡ true) (stops : t j ≡ false) where
  pub onward_leads : (n i : ℕ) → i ≤ j → j < i + n → onward t n i ≡ j
  unfolding onward
  onward_leads zero i a b = absurd (omega arith)
  onward_leads (suc n) i a b = go (ltb i j) (t i) refl refl (onward_leads n (suc i))
    where
      go : (p q : Bool) → ltb i j ≡ p → t i ≡ q → (suc i ≤ j → j < suc i + n → onward t n (suc i) ≡ j) → cond q (onward t n (suc i)) i ≡ j
      go true true e g f = let h : i < j = ltb-true i j e in f h (omega arith)
      go true false e g f = absurd (false≢true (sym g ∙ before i (ltb-true i j e)))
      go false true e g f =
          let h : j ≤ i = ltb-false i j e in
          let w : i ≡ j = omega arith in
          absurd (false≢true (sym stops ∙ subst (λ (x : ℕ). t x ≡ true) w g))
      go false false e g f = let h : j ≤ i = ltb-false i j e in omega arith
