-- What holds of every entry of a list, and of both sides of a choice.
use mathlib.Core.Path.{◌≡◌, refl}
use mathlib.Core.List.{List, [], ◌∷◌}
use mathlib.Core.Bool.{Bool, true, false, cond}
use Prim.Native.Nat.{ℕ, zero, suc}
use lib.ListN.{get_or, set, replicate}
use lib.Dec.{ltb}
use Rattle.context.specs.Context.{with_entry}

-- what holds of both sides of a choice holds of the choice
pub choose : {A : Type 0} (P : A → Type 0) (b : Bool) (x y : A) → (b ≡ true → P x) → (b ≡ false → P y) → P (cond b x y)
choose P true x y t f = t refl
choose P false x y t f = f refl

-- what holds of every entry, and of 0 past the end
module _ (P : ℕ → Type 0) where
  pub every_zero : P 0 → (n j : ℕ) → P (get_or (replicate n 0) j 0)
  every_zero z zero j = z
  every_zero z (suc n) zero = z
  every_zero z (suc n) (suc j) = every_zero z n j

  module _ (x : ℕ) (p : P x) where
    pub every_set : (l : List ℕ) (i : ℕ) → ((j : ℕ) → P (get_or l j 0)) → (j : ℕ) → P (get_or (set l i x) j 0)
    every_set [] i h j = h j
    every_set (y ∷ l) zero h zero = p
    every_set (y ∷ l) zero h (suc j) = h (suc j)
    every_set (y ∷ l) (suc i) h zero = h zero
    every_set (y ∷ l) (suc i) h (suc j) = every_set l i (λ n. h (suc n)) j

    pub every_entry : (k : ℕ) (t : List ℕ) (i : ℕ) → ((j : ℕ) → P (get_or t j 0)) → (j : ℕ) → P (get_or (with_entry k t i x) j 0)
    unfolding with_entry
    every_entry k t i h j = choose (λ (l : List ℕ). P (get_or l j 0)) (ltb i k) _ _ (λ e. every_set t i h j) (λ e. h j)
