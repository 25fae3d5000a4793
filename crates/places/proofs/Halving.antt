-- Halving, and going on from one number to the next: fuel past the distance changes nothing, and what a turn of each loop leaves.
use mathlib.Core.Path.{◌≡◌, refl, sym, ap, ◌∙◌}
use mathlib.Core.Bool.{Bool, true, false, cond}
use Prim.Native.Nat.{ℕ, zero, suc, ◌+◌, ◌-◌, ◌/◌, ◌≤◌, ◌<◌}
use native.Mathlib.Numerals.{add-one}
use native.Mathlib.Omega.{arith}
use lib.Dec.{ltb}
use borrow.Author.Tests.{lt-ltb, le-ltb, ltb-true}
use Rattle.places.specs.Places.{halved, onward}

-- the middle
abbrev pub mid : ℕ → ℕ → ℕ
mid lo hi = lo + (hi - lo) / 2

module _ (t : ℕ → Bool) where
  -- fuel past the distance changes nothing
  pub fuel : (n m lo hi : ℕ) → hi - lo ≤ n → hi - lo ≤ m → halved t n lo hi ≡ halved t m lo hi
  unfolding halved
  fuel zero zero lo hi a b = refl
  fuel zero (suc m) lo hi a b = let h : hi ≤ lo = omega arith in simp (le-ltb _ _ h)
  fuel (suc n) zero lo hi a b = let h : hi ≤ lo = omega arith in simp (le-ltb _ _ h)
  fuel (suc n) (suc m) lo hi a b = go (ltb lo hi) refl (fuel n m (suc (mid lo hi)) hi) (fuel n m lo (mid lo hi))
    where
      go : (x : Bool) → ltb lo hi ≡ x
          → (hi - suc (mid lo hi) ≤ n → hi - suc (mid lo hi) ≤ m → halved t n (suc (mid lo hi)) hi ≡ halved t m (suc (mid lo hi)) hi)
          → (mid lo hi - lo ≤ n → mid lo hi - lo ≤ m → halved t n lo (mid lo hi) ≡ halved t m lo (mid lo hi))
          → cond x (cond (t (mid lo hi)) (halved t n (suc (mid lo hi)) hi) (halved t n lo (mid lo hi))) lo
          ≡ cond x (cond (t (mid lo hi)) (halved t m (suc (mid lo hi)) hi) (halved t m lo (mid lo hi))) lo
      go false e f g = refl
      go true e f g =
          let h : lo < hi = ltb-true _ _ e in
          let u : halved t n (suc (mid lo hi)) hi ≡ halved t m (suc (mid lo hi)) hi = f (omega arith) (omega arith) in
          let w : halved t n lo (mid lo hi) ≡ halved t m lo (mid lo hi) = g (omega arith) (omega arith) in
          cc

  module _ (lo hi : ℕ) (h : lo < hi) where
    -- one turn, with just the fuel that is needed
    pub turn : halved t (hi - lo) lo hi ≡ cond (t (mid lo hi)) (halved t (hi - suc (mid lo hi)) (suc (mid lo hi)) hi) (halved t (mid lo hi - lo) lo (mid lo hi))
    unfolding halved
    turn =
        let u = fuel (hi - lo) (hi - suc (mid lo hi)) (suc (mid lo hi)) hi (omega arith) (omega arith) in
        let w = fuel (hi - lo) (mid lo hi - lo) lo (mid lo hi) (omega arith) (omega arith) in
        fuel (hi - lo) (suc (hi - lo)) lo hi (omega arith) (omega arith) ∙ simp (lt-ltb _ _ h, u, w)

  -- the turns, from what the code of `halve` is told
  pub turns_up : (lo hi : ℕ) {b : Bool} {y : ℕ} → lo < hi → b ≡ t (mid lo hi) → b ≡ true → halved t (hi - lo) lo hi ≡ y
      → halved t (hi - (mid lo hi + 1)) (mid lo hi + 1) hi ≡ y
  turns_up lo hi h e w f = let u : t (mid lo hi) ≡ true = sym e ∙ w in rw add-one (sym (turn lo hi h ∙ simp u) ∙ f)

  pub turns_down : (lo hi : ℕ) {b : Bool} {y : ℕ} → lo < hi → b ≡ t (mid lo hi) → b ≡ false → halved t (hi - lo) lo hi ≡ y
      → halved t (mid lo hi - lo) lo (mid lo hi) ≡ y
  turns_down lo hi h e w f = let u : t (mid lo hi) ≡ false = sym e ∙ w in sym (turn lo hi h ∙ simp u) ∙ f

  pub turned : (lo hi : ℕ) {y : ℕ} → hi ≤ lo → halved t (hi - lo) lo hi ≡ y → lo ≡ y
  unfolding halved
  turned lo hi h f = fuel zero (hi - lo) lo hi (omega arith) (omega arith) ∙ f

  -- one number further, from what the code of `go_on` is told
  module _ (n i : ℕ) {y : ℕ} (f : onward t (n - i) i ≡ y) where
    goes : i < n → cond (t i) (onward t (n - suc i) (suc i)) i ≡ y
    unfolding onward
    goes l = let w : n - i ≡ suc (n - suc i) = omega arith in sym (ap (λ (m : ℕ). onward t m i) w) ∙ f

    pub goes_on : {b : Bool} → i < n → b ≡ t i → b ≡ true → onward t (n - (i + 1)) (i + 1) ≡ y
    goes_on l e w = let u : t i ≡ true = sym e ∙ w in rw add-one (sym (simp u) ∙ goes l)

    pub goes_no_further : {b : Bool} → i < n → b ≡ t i → b ≡ false → i ≡ y
    goes_no_further l e w = let u : t i ≡ false = sym e ∙ w in sym (simp u) ∙ goes l

    pub goes_to_the_end : n ≤ i → i ≡ y
    unfolding onward
    goes_to_the_end l = let w : n - i ≡ 0 = omega arith in sym (ap (λ (m : ℕ). onward t m i) w) ∙ f
