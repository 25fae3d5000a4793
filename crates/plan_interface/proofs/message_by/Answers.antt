use Rattle.std.specs.Prelude.{None}
use Prim.Native.Nat.{ℕ}
use mathlib.Core.Path.{◌≡◌}
use borrow.Author.Tests.{ne_eqb}
use Rattle.plan_interface.specs.Messages.{message_by}
use Rattle.plan_interface.proofs.message_by.Goals as goal

pub returns-in-1 : goal.returns-in-1
unfolding message_by
returns-in-1 c = rw c.in-1.is

pub returns-in-2 : goal.returns-in-2
unfolding message_by
returns-in-2 c = rw c.in-2.is

pub returns-in-3 : goal.returns-in-3
unfolding message_by
returns-in-3 c = rw c.in-3.is

-- a kind that is none of those in front
others : (k a b e m : ℕ) → (k ≡ 0x01 → ⊥) → (k ≡ 0x02 → ⊥) → (k ≡ 0x03 → ⊥) → None ≡ message_by k a b e m
unfolding message_by
others k a b e m h0 h1 h2 = simp (ne_eqb _ _ h0, ne_eqb _ _ h1, ne_eqb _ _ h2)

pub returns-in_default : goal.returns-in_default
returns-in_default c = search others
