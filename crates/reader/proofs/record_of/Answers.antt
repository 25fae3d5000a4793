use native.Mathlib.Nat.{add-zero}
use lib.Seq.{get_or-drop}
use Prim.Native.Nat.{ℕ}
use mathlib.Core.Path.{◌≡◌}
use mathlib.Core.List.{List}
use Rattle.records.specs.declared.Record.TheVariants.{End}
use borrow.Author.Tests.{ne_eqb}
use Rattle.words.proofs.Laws.{word_drop}
use Rattle.reader.specs.Read.{record_of}
use Rattle.reader.proofs.record_of.Goals as goal

pub returns-in-16 : goal.returns-in-16
unfolding record_of
returns-in-16 c = rw (← c.within-b.ensures.1, c.in-16.is) (simp (get_or-drop, add-zero) cc)

pub returns-in-17 : goal.returns-in-17
unfolding record_of
returns-in-17 c = rw (← c.within-b.ensures.1, c.in-17.is) (simp (get_or-drop, add-zero) cc)

pub returns-in-18 : goal.returns-in-18
unfolding record_of
returns-in-18 c = rw (← c.within-b.ensures.1, c.in-18.is) (simp (get_or-drop, add-zero) cc)

pub returns-in-19 : goal.returns-in-19
unfolding record_of
returns-in-19 c = rw (← c.within-b.ensures.1, c.in-19.is) (simp (get_or-drop, add-zero) cc)

pub returns-in-20 : goal.returns-in-20
unfolding record_of
returns-in-20 c = rw (← c.within-b.ensures.1, c.in-20.is) (simp (get_or-drop, word_drop, add-zero) cc)

pub returns-in-21 : goal.returns-in-21
unfolding record_of
returns-in-21 c = rw (← c.within-b.ensures.1, c.in-21.is) (simp (get_or-drop, add-zero) cc)

pub returns-in-22 : goal.returns-in-22
unfolding record_of
returns-in-22 c = rw (← c.within-b.ensures.1, c.in-22.is) (simp (get_or-drop, word_drop, add-zero) cc)

pub returns-in-23 : goal.returns-in-23
unfolding record_of
returns-in-23 c = rw (← c.within-b.ensures.1, c.in-23.is) (simp (get_or-drop, word_drop, add-zero) cc)

pub returns-in-24 : goal.returns-in-24
unfolding record_of
returns-in-24 c = rw (← c.within-b.ensures.1, c.in-24.is) (simp (get_or-drop, add-zero) cc)

-- a kind that is none of those in front
others : (k : ℕ) (b : List ℕ) → (k ≡ 16 → ⊥) → (k ≡ 17 → ⊥) → (k ≡ 18 → ⊥) → (k ≡ 19 → ⊥) → (k ≡ 20 → ⊥) → (k ≡ 21 → ⊥) → (k ≡ 22 → ⊥) → (k ≡ 23 → ⊥) → (k ≡ 24 → ⊥) → End ≡ record_of k b
unfolding record_of
others k b h16 h17 h18 h19 h20 h21 h22 h23 h24 = simp (ne_eqb _ _ h16, ne_eqb _ _ h17, ne_eqb _ _ h18, ne_eqb _ _ h19, ne_eqb _ _ h20, ne_eqb _ _ h21, ne_eqb _ _ h22, ne_eqb _ _ h23, ne_eqb _ _ h24)

pub returns-in_default : goal.returns-in_default
returns-in_default c = search others
