-- Bytes are all 0 if what `|` joins of them is.
use mathlib.Core.Path.{◌≡◌, refl, sym, ap, ◌∙◌}
use mathlib.Core.List.{List, [], ◌∷◌}
use mathlib.Core.Bool.{Bool, ◌&&◌, and-true, and_assoc}
use Prim.Native.Nat.{ℕ, zero, suc}
use native.Mathlib.Omega.{arith}
use lib.Dec.{eqb}
use lib.Bits.{bit_or, or_add_and, and_le_r}
use borrow.Author.Tests.{ne_eqb}
use Rattle.std.specs.List.{fold}
use Rattle.words.specs.Word.{all_zero}

both_zero : (a b : ℕ) → eqb (bit_or a b) 0 ≡ (eqb a 0 && eqb b 0)
both_zero zero b = refl
both_zero (suc a) b =
    let some : bit_or (suc a) b ≡ 0 → ⊥ = λ e. omega (arith, e, or_add_and (suc a) b, and_le_r (suc a) b) in
    ne_eqb (bit_or (suc a) b) 0 some ∙ sym (ap (λ (t : Bool). t && eqb b 0) (ne_eqb (suc a) 0 (λ e. omega (arith, e))))

-- the bytes joined by `|`
zeros_from : (a : ℕ) (s : List ℕ) → eqb (fold bit_or a s) 0 ≡ (eqb a 0 && all_zero s)
unfolding all_zero
zeros_from a [] = sym (and-true (eqb a 0))
zeros_from a (x ∷ s) = zeros_from (bit_or a x) s ∙ ap (λ (b : Bool). b && all_zero s) (both_zero a x) ∙ and_assoc (eqb a 0) (eqb x 0) (all_zero s)

pub zeros_joined : (s : List ℕ) → eqb (fold bit_or 0 s) 0 ≡ all_zero s
zeros_joined s = zeros_from 0 s
