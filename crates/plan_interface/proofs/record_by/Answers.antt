use Rattle.std.specs.Prelude.{Option}
use Rattle.records.specs.declared.Record.{Record}
use Prim.Native.Nat.{ℕ}
use mathlib.Core.Path.{◌≡◌}
use borrow.Author.Tests.{ne_eqb}
use Rattle.plan_interface.specs.Records.{record_by, word_record_by}
use Rattle.plan_interface.proofs.record_by.Goals as goal

pub returns-in-16 : goal.returns-in-16
unfolding record_by
returns-in-16 c = rw c.in-16.is

pub returns-in-17 : goal.returns-in-17
unfolding record_by
returns-in-17 c = rw c.in-17.is

pub returns-in-18 : goal.returns-in-18
unfolding record_by
returns-in-18 c = rw c.in-18.is

pub returns-in-19 : goal.returns-in-19
unfolding record_by
returns-in-19 c = rw c.in-19.is

pub returns-in-21 : goal.returns-in-21
unfolding record_by
returns-in-21 c = rw c.in-21.is

pub returns-in-24 : goal.returns-in-24
unfolding record_by
returns-in-24 c = rw c.in-24.is

-- a kind that is none of those in front
others : (k a b c d w : ℕ) {x : Option Record} → (k ≡ 0x10 → ⊥) → (k ≡ 0x11 → ⊥) → (k ≡ 0x12 → ⊥) → (k ≡ 0x13 → ⊥) → (k ≡ 0x15 → ⊥) → (k ≡ 0x18 → ⊥) → x ≡ word_record_by k a b c w → x ≡ record_by k a b c d w
unfolding record_by
others k a b c d w h0 h1 h2 h3 h4 h5 e = simp (ne_eqb _ _ h0, ne_eqb _ _ h1, ne_eqb _ _ h2, ne_eqb _ _ h3, ne_eqb _ _ h4, ne_eqb _ _ h5) e

pub returns-in_default : goal.returns-in_default
returns-in_default c = search others
