-- The module that is served, from what the code is told.
use Rattle.std.specs.Prelude.{Option, Some, None}
use mathlib.Core.Path.{◌≡◌, sym, ap, ◌∙◌, subst}
use Prim.Native.Nat.{ℕ, suc, ◌+◌, ◌%◌, ◌<◌}
use native.Mathlib.Nat.{mod-lt}
use native.Mathlib.Omega.{arith}
use lib.Dec.{lit<}
use Rattle.bits.specs.Bit.{bit, least}
use Rattle.bits.proofs.Least.{least_some, least_same}
use Rattle.permits.specs.Supervisor.{module_after, next_noted, served_on, served}
use Rattle.permits.specs.declared.Supervisor.{Supervisor}
use Rattle.permits.specs.declared.Holder.{Holder}
use Rattle.permits.specs.declared.Holder.TheVariants.{Home, Out}

-- the lowest bit is below 64
pub lowest_below : (x : ℕ) {o : Option ℕ} {k : ℕ} → o ≡ least (bit x) 64 → o ≡ Some k → k < 64
lowest_below x {k = k} e f = (least_some (bit x) 64 k (sym ((sym f) ∙ e))).below

module _ (y : Supervisor) where
  -- the places after the last served go round
  round_last : (k : ℕ) → module_after (y.last % 16) k ≡ module_after y.last k
  unfolding module_after
  round_last k = omega arith

  module _ (x : ℕ) (t : least (bit x) 64 ≡ least (λ k. bit y.noted (module_after (y.last % 16) k)) 16) where
    first : least (bit x) 64 ≡ least (λ k. bit y.noted (module_after y.last k)) 16
    first = t ∙ least_same (λ k. bit y.noted (module_after (y.last % 16) k)) (λ k. bit y.noted (module_after y.last k)) 16 (λ k l. ap (bit y.noted) (round_last k))

    pub served_some : {o : Option ℕ} {k : ℕ} → y.holder ≡ Home → o ≡ least (bit x) 64 → o ≡ Some k → Some ((y.last % 16 + 1 + k) % 16) ≡ served y
    unfolding served_on next_noted module_after
    served_some {k = k} h e f =
        ap Some (let q : (y.last % 16 + 1 + k) % 16 ≡ (y.last + suc k) % 16 = omega arith in q)
        ∙ ap (next_noted y) ((sym f) ∙ e ∙ first) ∙ ap (served_on y) (sym h)

    pub served_none : {o : Option ℕ} → y.holder ≡ Home → o ≡ least (bit x) 64 → o ≡ None → None ≡ served y
    unfolding served_on next_noted
    served_none h e f = ap (next_noted y) ((sym f) ∙ e ∙ first) ∙ ap (served_on y) (sym h)

  pub served_out : {m : ℕ} → y.holder ≡ Out m → None ≡ served y
  unfolding served_on
  served_out h = ap (served_on y) (sym h)

  -- it is one of 16
  pub served_small : {o : Option ℕ} {m : ℕ} → o ≡ served y → o ≡ Some m → m < 16
  unfolding served_on next_noted module_after
  served_small {m = m} e f = go y.holder (sym e ∙ f)
    where
      next : (o : Option ℕ) → next_noted y o ≡ Some m → m < 16
      next None q = let z : ◌≡◌ {A = ℕ} 0 1 = cc in absurd (omega arith)
      next (Some k) q = subst (λ (x : ℕ). x < 16) (let z : (y.last + suc k) % 16 ≡ m = cc in z) (mod-lt (y.last + suc k) (lit< tt))

      go : (h : Holder) → served_on y h ≡ Some m → m < 16
      go Home q = next (least (λ k. bit y.noted (module_after y.last k)) 16) q
      go (Out n) q = let z : ◌≡◌ {A = ℕ} 0 1 = cc in absurd (omega arith)
