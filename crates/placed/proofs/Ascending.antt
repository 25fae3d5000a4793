-- The records of an accepted plan ascend strictly, each before all that come later.
use Prim.Native.Nat.{ℕ, ◌≤◌}
use native.Mathlib.Omega.{arith}
use mathlib.Core.Path.{◌≡◌, refl, sym, subst}
use mathlib.Core.Logic.{◌⊎◌, inl, inr}
use mathlib.Core.List.Memᴰ
use mathlib.Core.List.{List, [], ◌∷◌, reverse_aux}
use mathlib.Core.Bool.{Bool, true, false, ◌&&◌, ◌||◌}
use lib.Dec.{eqb, ltb}
use borrow.Author.Tests.{lt-ltb, eq-eqb}
use denote.Floats.{passes as holds}
use Rattle.records.specs.Kinds.{kind_of}
use Rattle.records.specs.Key.{key_of, precedes}
use Rattle.records.specs.declared.Record.{Record}
use Rattle.records.specs.declared.RecordKey.{RecordKey}
use Rattle.reader.specs.Walk.{records_of}
use Rattle.rules.specs.Check.{IsPlan}
use Rattle.rules.specs.Valid.{Valid}
use Rattle.accepted.specs.Plan.{◌∈◌}
use Rattle.accepted.proofs.Order.{Before, Precedes, precedes_is, precedes_trans, precedes_irrefl, after}
use Rattle.records.proofs.Order.{key_kind}
use Rattle.accepted.proofs.Walked.{walked_plan}

-- ---- the order as a test

before_test : (a b : ℕ) (x : Bool) {X : Type 0} → (X → x ≡ true) → Before a b X → (ltb a b || (eqb a b && x)) ≡ true
before_test a b x f (inl h) = simp (lt-ltb a b h)
before_test a b x f (inr h) = go (ltb a b) (eq-eqb a b h.0) (f h.1)
  where
    go : (c : Bool) {d : Bool} → d ≡ true → x ≡ true → (c || (d && x)) ≡ true
    go true p q = refl
    go false p q = simp (p, q)

pub precedes_true : (p q : RecordKey) → Precedes p q → precedes p q ≡ true
unfolding precedes
precedes_true p q =
    before_test p.kind q.kind _
    (before_test p.first q.first _
    (before_test p.second q.second _ (lt-ltb p.third q.third)))

pub precedes_false : (p q : RecordKey) → (Precedes p q → ⊥) → precedes p q ≡ false
precedes_false p q f = go (precedes p q) refl
  where
    go : (b : Bool) → precedes p q ≡ b → b ≡ false
    go true e = absurd (f (precedes_is p q (holds _ e)))
    go false e = refl

-- ---- ascending records

unfoldable pub Ascends : List Record → Type 0
Ascends [] = Unit {0}
Ascends (r ∷ rs) = ((t : Record) → t ∈ rs → Precedes (key_of r) (key_of t)) × Ascends rs

-- a record does not precede one that precedes it, nor itself
pub not_back : (p q : RecordKey) → Precedes p q → Precedes q p → ⊥
not_back p q h k = precedes_irrefl p (precedes_trans p q p h k)

pub kind_rises : (r t : Record) → Precedes (key_of r) (key_of t) → kind_of r ≤ kind_of t
kind_rises r t h = go h
  where
    go : Precedes (key_of r) (key_of t) → kind_of r ≤ kind_of t
    go (inl k) = let a = key_kind r in let b = key_kind t in omega arith
    go (inr k) = let a = key_kind r in let b = key_kind t in let c = k.0 in omega arith

-- ---- those of an accepted plan

earlier : (xs acc : List Record) → Valid (reverse_aux xs acc) → Valid acc
unfolding Valid
earlier [] acc v = v
earlier (x ∷ xs) acc v = (earlier xs (x ∷ acc) v).1

later : (xs acc : List Record) (r t : Record) → Valid (reverse_aux xs acc) → r ∈ acc → t ∈ xs → Precedes (key_of r) (key_of t)
later [] acc r t v m n = absurd (Memᴰ.not-nil n)
later (x ∷ xs) acc r t v m n = go (Memᴰ.cases_cons n) (later xs (x ∷ acc) r t v (Memᴰ.tail m))
  where
    go : (t ≡ x) ⊎ (t ∈ xs) → (t ∈ xs → Precedes (key_of r) (key_of t)) → Precedes (key_of r) (key_of t)
    go (inl e) f = subst (λ (y : Record). Precedes (key_of r) (key_of y)) (sym e) (after acc x r (earlier xs (x ∷ acc) v) m)
    go (inr l) f = f l

ascending : (xs acc : List Record) → Valid (reverse_aux xs acc) → Ascends xs
unfolding Ascends
ascending [] acc v = tt
ascending (x ∷ xs) acc v = (λ t n. later xs (x ∷ acc) x t v (Memᴰ.head refl) n, ascending xs (x ∷ acc) v)

pub plan_ascends : (s : List ℕ) → IsPlan s → Ascends (records_of s)
plan_ascends s accepted = ascending (records_of s) [] (walked_plan s accepted).valid
