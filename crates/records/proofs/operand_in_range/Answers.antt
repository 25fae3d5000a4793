use Prim.Native.Nat.{ℕ}
use mathlib.Core.Path.{◌≡◌, ◌∙◌}
use lib.Dec.{eqb}
use borrow.Author.Tests.{ne_eqb}
use Rattle.records.specs.Range.{operand_in_range}
use Rattle.records.proofs.operand_in_range.Goals as goal

pub returns-in-1 : goal.returns-in-1
unfolding operand_in_range
returns-in-1 c = rw c.in-1.is

pub returns-in-2 : goal.returns-in-2
unfolding operand_in_range
returns-in-2 c = rw c.in-2.is

pub returns-in-3 : goal.returns-in-3
unfolding operand_in_range
returns-in-3 c = rw c.in-3.is

pub returns-in-4 : goal.returns-in-4
unfolding operand_in_range
returns-in-4 c = c.target_ok.ensures ∙ rw c.in-4.is

-- an operation that is none of the first four
others : (o x : ℕ) → (o ≡ 1 → ⊥) → (o ≡ 2 → ⊥) → (o ≡ 3 → ⊥) → (o ≡ 4 → ⊥) → eqb o 5 ≡ operand_in_range o x
unfolding operand_in_range
others o x a b c d = simp (ne_eqb _ _ a, ne_eqb _ _ b, ne_eqb _ _ c, ne_eqb _ _ d)

pub returns-in_default : goal.returns-in_default
returns-in_default c = search others
