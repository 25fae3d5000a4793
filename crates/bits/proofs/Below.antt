-- A test of every number below another, as loops go through them.
use Prim.Native.Nat.{ℕ, zero, suc, ◌+◌, ◌≤◌, ◌<◌}
use native.Mathlib.Numerals.{add-one}
use native.Mathlib.Omega.{arith}
use mathlib.Core.Path.{◌≡◌, refl, sym, ap, ap₂, ◌∙◌}
use mathlib.Core.Bool.{Bool, true, false, ◌&&◌, true≢false}
use Rattle.bits.specs.Bit.{all_below}

-- every one below i passes
pub all_on_lem : (p : ℕ → Bool) (i : ℕ) {b : Bool} → b ≡ p i → b ≡ true → all_below p i ≡ true → all_below p (i + 1) ≡ true
all_on_lem p i e t h = ap (all_below p) (add-one i) ∙ (unfold all_below in ap₂ ◌&&◌ (sym e ∙ t) h)

pub one_fails : (p : ℕ → Bool) (n i : ℕ) {b : Bool} → b ≡ p i → b ≡ false → i < n → false ≡ all_below p n
unfolding all_below
one_fails p zero i e f h = absurd (omega arith)
one_fails p (suc n) i e f h = go (p n) refl (one_fails p n i e f)
  where
    go : (a : Bool) → p n ≡ a → (i < n → false ≡ all_below p n) → false ≡ (a && all_below p n)
    go false q ih = refl
    go true q ih =
        let other : i ≡ n → ⊥ = λ w. true≢false (sym q ∙ ap p (sym w) ∙ sym e ∙ f) in
        ih (omega arith)

pub all_done : (p : ℕ → Bool) (n i : ℕ) → i ≤ n → n ≤ i → all_below p i ≡ true → true ≡ all_below p n
all_done p n i h k a = let e : i ≡ n = omega arith in sym a ∙ ap (all_below p) e
