-- Laws of the first space.
use mathlib.Core.Path.{◌≡◌, refl, sym, ap, ◌∙◌}
use mathlib.Core.List.{List, [], ◌∷◌}
use mathlib.Core.Bool.{Bool, true, false, cond, not}
use Prim.Native.Nat.{ℕ, ◌+◌, ◌≤◌, ◌<◌}
use native.Mathlib.Omega.{arith}
use lib.ListN.{length, take, drop, length-take, length-drop}
use lib.Dec.{eqb, leb, ltb}
use borrow.Author.Tests.{leb-true, leb-false, ltb-false}
use Rattle.std.specs.Prelude.{Option, Some, None}
use Rattle.std.specs.Option.{unwrap_or}
use Rattle.std.specs.List.{position, position_or_len}
use Rattle.std.proofs.lemmas.List.Recursion.{is_position_or_len}
use Rattle.std.proofs.lemmas.List.Sums.{prefix_len-le-length}
use Rattle.lines.specs.Number.{number_of, space_in}
use Rattle.lines.proofs.Numbers.{byte_long}

-- the first space, as `position` finds it
pub space_found : (s : List ℕ) {r : Option ℕ} → r ≡ position (λ b. eqb b 32) s → unwrap_or r (length s) ≡ space_in s
unfolding space_in
space_found s {r} e = ap (λ (q : Option ℕ). unwrap_or q (length s)) e ∙ go (ltb (position_or_len (λ b. eqb b 32) s) (length s)) refl ∙ sym (is_position_or_len space_in (λ b. eqb b 32) first next s)
  where
    first : space_in [] ≡ 0
    first = refl

    next : (b : ℕ) (bs : List ℕ) → space_in (b ∷ bs) ≡ cond (eqb b 32) 0 (1 + space_in bs)
    next b bs = ap (cond (eqb b 32) 0) (omega arith)

    go : (t : Bool) → ltb (position_or_len (λ b. eqb b 32) s) (length s) ≡ t
        → unwrap_or (cond t (Some (position_or_len (λ b. eqb b 32) s)) None) (length s) ≡ position_or_len (λ b. eqb b 32) s
    go true g = refl
    go false g = let f = ltb-false _ _ g in let k = prefix_len-le-length (λ b. not (eqb b 32)) s in omega arith

-- of more than k + 4 bytes more than k stand behind the first space, or what stands before it is too long for a number
pub around : (bs : List ℕ) (k : ℕ) {P : Type 0} → k + 4 < length bs → (number_of (take (space_in bs) bs) ≡ None → P) → (k < length (drop (space_in bs + 1) bs) → P) → P
around bs k {P} h first second = go (leb (space_in bs) 3) refl
  where
    go : (b : Bool) → leb (space_in bs) 3 ≡ b → P
    go true q = let n : space_in bs ≤ 3 = leb-true _ _ q in second (simp length-drop (omega arith))
    go false q = let n : 3 < space_in bs = leb-false _ _ q in first (byte_long (take (space_in bs) bs) (simp length-take (omega arith)))
