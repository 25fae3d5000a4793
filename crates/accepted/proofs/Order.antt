-- The keys of faultless records strictly ascend, so no two share one.
use Prim.Native.Nat.{ℕ, ◌<◌}
use native.Mathlib.Omega.{arith}
use mathlib.Core.Path.{◌≡◌, refl, sym, ap, ◌∙◌, subst}
use mathlib.Core.Logic.{◌⊎◌, inl, inr}
use mathlib.Core.List.Memᴰ
use mathlib.Core.List.{List, [], ◌∷◌}
use mathlib.Core.Bool.{Bool, true, false, ◌&&◌, ◌||◌}
use lib.Dec.{T, ltb, eqb, ltb→lt}
use lib.Ieee.Fits.{and_l}
use borrow.Author.Tests.{ltb-true, eqb-true}
use denote.Floats.{passes as holds}
use Rattle.records.specs.Key.{key_of, precedes}
use Rattle.records.specs.declared.Record.{Record}
use Rattle.records.specs.declared.RecordKey.{RecordKey}
use Rattle.rules.specs.Rules.{in_order, index_runs}
use Rattle.rules.specs.Valid.{Valid}
use Rattle.rules.proofs.Valid.{passes}
use Rattle.accepted.specs.Plan.{◌∈◌, Unique}

-- ---- the order of keys

-- one field decides, or it is equal and the later fields do
abbrev pub Before : ℕ → ℕ → Type 0 → Type 0
Before a b X = (a < b) ⊎ ((a ≡ b) × X)

abbrev pub Precedes : RecordKey → RecordKey → Type 0
Precedes p q = Before p.kind q.kind (Before p.first q.first (Before p.second q.second (p.third < q.third)))

abbrev before : ℕ → ℕ → Bool → Bool
before a b x = ltb a b || (eqb a b && x)

before_is : (a b : ℕ) (x : Bool) {X : Type 0} → (T x → X) → T (before a b x) → Before a b X
before_is a b x {X} f t = go (ltb a b) (eqb a b) refl refl t
  where
    go : (p q : Bool) → ltb a b ≡ p → eqb a b ≡ q → T (p || (q && x)) → Before a b X
    go true q e h t = inl (ltb-true a b e)
    go false true e h t = inr (eqb-true a b h, f t)
    go false false e h t = absurd t

pub precedes_is : (p q : RecordKey) → T (precedes p q) → Precedes p q
unfolding precedes
precedes_is p q =
    let third : Bool = ltb p.third q.third in
    let second : Bool = before p.second q.second third in
    let first : Bool = before p.first q.first second in
    before_is p.kind q.kind first
    (before_is p.first q.first second
    (before_is p.second q.second third (ltb→lt p.third q.third)))

before_trans : (a b c : ℕ) {X Y Z : Type 0} → (X → Y → Z) → Before a b X → Before b c Y → Before a c Z
before_trans a b c f (inl h) (inl k) = inl (omega arith)
before_trans a b c f (inl h) (inr k) = inl (omega arith)
before_trans a b c f (inr h) (inl k) = inl (omega arith)
before_trans a b c f (inr h) (inr k) = inr (h.0 ∙ k.0, f h.1 k.1)

before_irrefl : (a : ℕ) {X : Type 0} → (X → ⊥) → Before a a X → ⊥
before_irrefl a f (inl h) = omega arith
before_irrefl a f (inr h) = f h.1

pub precedes_trans : (p q r : RecordKey) → Precedes p q → Precedes q r → Precedes p r
precedes_trans p q r =
    before_trans p.kind q.kind r.kind
    (before_trans p.first q.first r.first
    (before_trans p.second q.second r.second (λ h k. omega arith)))

pub precedes_irrefl : (p : RecordKey) → Precedes p p → ⊥
precedes_irrefl p = before_irrefl p.kind (before_irrefl p.first (before_irrefl p.second (λ h. omega arith)))

-- ---- the order of faultless records

-- each record comes after those before it
pub after : (rs : List Record) (r t : Record) → Valid (r ∷ rs) → t ∈ rs → Precedes (key_of t) (key_of r)
unfolding Valid in_order
after [] r t v m = absurd (Memᴰ.not-nil m)
after (x ∷ rs) r t v m = go (Memᴰ.cases_cons m) (λ n. after rs x t v.1 n)
  where
    next : Precedes (key_of x) (key_of r)
    next = precedes_is (key_of x) (key_of r) (and_l (precedes (key_of x) (key_of r)) (index_runs (x ∷ rs) r) (holds _ (passes (x ∷ rs) r v.0).order))

    go : (t ≡ x) ⊎ (t ∈ rs) → (t ∈ rs → Precedes (key_of t) (key_of x)) → Precedes (key_of t) (key_of r)
    go (inl e) f = subst (λ (y : Record). Precedes (key_of y) (key_of r)) (sym e) next
    go (inr n) f = precedes_trans (key_of t) (key_of x) (key_of r) (f n) next

pub unique : (rs : List Record) → Valid rs → Unique rs
unfolding Valid
unique [] v r t m n e = absurd (Memᴰ.not-nil m)
unique (x ∷ rs) v r t m n e = go (Memᴰ.cases_cons m) (Memᴰ.cases_cons n) (unique rs v.1 r t)
  where
    other : (y : Record) → y ∈ rs → key_of y ≡ key_of x → ⊥
    other y k q = precedes_irrefl (key_of x) (subst (λ (p : RecordKey). Precedes p (key_of x)) q (after rs x y v k))

    go : (r ≡ x) ⊎ (r ∈ rs) → (t ≡ x) ⊎ (t ∈ rs) → (r ∈ rs → t ∈ rs → key_of r ≡ key_of t → r ≡ t) → r ≡ t
    go (inl p) (inl q) f = p ∙ sym q
    go (inl p) (inr q) f = absurd (other t q (sym e ∙ ap key_of p))
    go (inr p) (inl q) f = absurd (other r p (e ∙ ap key_of q))
    go (inr p) (inr q) f = f p q e
