use Rattle.std.specs.Prelude.{None}
use Prim.Native.Nat.{ℕ}
use mathlib.Core.Path.{◌≡◌}
use borrow.Author.Tests.{ne_eqb}
use Rattle.plan_interface.specs.Records.{word_record_by}
use Rattle.plan_interface.proofs.word_record_by.Goals as goal

pub returns-in-20 : goal.returns-in-20
unfolding word_record_by
returns-in-20 c = rw c.in-20.is

pub returns-in-22 : goal.returns-in-22
unfolding word_record_by
returns-in-22 c = rw c.in-22.is

pub returns-in-23 : goal.returns-in-23
unfolding word_record_by
returns-in-23 c = rw c.in-23.is

pub returns-in-31 : goal.returns-in-31
unfolding word_record_by
returns-in-31 c = rw c.in-31.is

-- a kind that is none of those in front
others : (k a b c w : ℕ) → (k ≡ 0x14 → ⊥) → (k ≡ 0x16 → ⊥) → (k ≡ 0x17 → ⊥) → (k ≡ 0x1f → ⊥) → None ≡ word_record_by k a b c w
unfolding word_record_by
others k a b c w h0 h1 h2 h3 = simp (ne_eqb _ _ h0, ne_eqb _ _ h1, ne_eqb _ _ h2, ne_eqb _ _ h3)

pub returns-in_default : goal.returns-in_default
returns-in_default c = search others
