-- The order of records is that of their ranks, and the kind in a key.
use mathlib.Core.Path.{◌≡◌, refl, sym, ap, ◌∙◌}
use mathlib.Core.Bool.{Bool, true, false, ◌&&◌, ◌||◌}
use Prim.Native.Nat.{ℕ, suc, ◌+◌, ◌*◌, ◌≤◌, ◌<◌}
use native.Mathlib.Nat.{mul-le-mul_right, suc-mul}
use native.Mathlib.Omega.{arith}
use lib.Dec.{ltb, eqb}
use borrow.Author.Tests.{lt-ltb, le-ltb, ltb-true, ltb-false, eq-eqb, ne_eqb, eqb-true, eqb-false}
use Rattle.records.specs.Kinds.{kind_of}
use Rattle.records.specs.Key.{key_of, rank_of, same_key, precedes}
use Rattle.records.specs.declared.RecordKey.{RecordKey}
use Rattle.records.specs.declared.Record.{Record}
use Rattle.records.specs.declared.Record.TheVariants.{Head, Event, Module, ModuleMove, Supervisor, SupervisorMove, Disabling, Step, Marking, End}

-- a number by a higher part and a lower one, below m, is less by the higher part, or by the lower one where the higher are equal
less : (m a b x y : ℕ) → x < m → y < m → ltb (a * m + x) (b * m + y) ≡ (ltb a b || (eqb a b && ltb x y))
less m a b x y hx hy = go (ltb a b) (eqb a b) refl refl
  where
    higher : (a b x y : ℕ) → x < m → a < b → a * m + x < b * m + y
    higher a b x y h l =
        let t : suc a * m ≤ b * m = mul-le-mul_right m l in
        let u : suc a * m ≡ a * m + m = suc-mul a m in
        omega arith

    equal : (t : Bool) → ltb x y ≡ t → ltb (a * m + x) (a * m + y) ≡ t
    equal true p = let l : x < y = ltb-true x y p in lt-ltb (a * m + x) (a * m + y) (omega arith)
    equal false p = let l : y ≤ x = ltb-false x y p in le-ltb (a * m + x) (a * m + y) (omega arith)

    go : (t e : Bool) → ltb a b ≡ t → eqb a b ≡ e → ltb (a * m + x) (b * m + y) ≡ (t || (e && ltb x y))
    go true e p q = lt-ltb (a * m + x) (b * m + y) (higher a b x y hx (ltb-true a b p))
    go false true p q = ap (λ (z : ℕ). ltb (a * m + x) (z * m + y)) (sym (eqb-true a b q)) ∙ equal (ltb x y) refl
    go false false p q =
        let l : b ≤ a = ltb-false a b p in
        let n : a ≡ b → ⊥ = eqb-false a b q in
        let k : b < a = omega arith in
        let h : b * m + y < a * m + x = higher b a y x hy k in
        le-ltb (a * m + x) (b * m + y) (omega arith)

pub ranks : (p q : RecordKey) → p.first < 256 → p.second < 256 → p.third < 256 → q.first < 256 → q.second < 256 → q.third < 256
    → ltb (rank_of p) (rank_of q) ≡ precedes p q
unfolding precedes
ranks p q f1 s1 t1 f2 s2 t2 =
    let e : (p : RecordKey) → rank_of p ≡ p.kind * 16777216 + (p.first * 65536 + (p.second * 256 + p.third)) = λ p. omega arith in
    let pf : p.first * 65536 + (p.second * 256 + p.third) < 16777216 = omega arith in
    let qf : q.first * 65536 + (q.second * 256 + q.third) < 16777216 = omega arith in
    let ps : p.second * 256 + p.third < 65536 = omega arith in
    let qs : q.second * 256 + q.third < 65536 = omega arith in
    rw (e p, e q, less 16777216, less 65536, less 256)

-- keys of one kind are the same where their ranks are
pub same_ranks : (p q : RecordKey) → p.kind ≡ q.kind → p.second < 256 → p.third < 256 → q.second < 256 → q.third < 256
    → same_key p q ≡ eqb (rank_of p) (rank_of q)
unfolding same_key
same_ranks p q k s1 t1 s2 t2 = go (eqb p.first q.first) (eqb p.second q.second) (eqb p.third q.third) refl refl refl
  where
    apart : (rank_of p ≡ rank_of q → ⊥) → false ≡ eqb (rank_of p) (rank_of q)
    apart h = sym (ne_eqb _ _ h)

    go : (a b c : Bool) → eqb p.first q.first ≡ a → eqb p.second q.second ≡ b → eqb p.third q.third ≡ c
        → (eqb p.kind q.kind && a && b && c) ≡ eqb (rank_of p) (rank_of q)
    go true true true f g h =
        let x : p.first ≡ q.first = eqb-true _ _ f in
        let y : p.second ≡ q.second = eqb-true _ _ g in
        let z : p.third ≡ q.third = eqb-true _ _ h in
        let w : rank_of p ≡ rank_of q = omega arith in
        simp (eq-eqb _ _ k, eq-eqb _ _ w)
    go true true false f g h =
        let x : p.first ≡ q.first = eqb-true _ _ f in
        let y : p.second ≡ q.second = eqb-true _ _ g in
        let z : p.third ≡ q.third → ⊥ = eqb-false _ _ h in
        simp (eq-eqb _ _ k) (apart (λ e. z (omega arith)))
    go true false c f g h =
        let x : p.first ≡ q.first = eqb-true _ _ f in
        let y : p.second ≡ q.second → ⊥ = eqb-false _ _ g in
        simp (eq-eqb _ _ k) (apart (λ e. y (omega arith)))
    go false b c f g h = let x : p.first ≡ q.first → ⊥ = eqb-false _ _ f in simp (eq-eqb _ _ k) (apart (λ e. x (omega arith)))

-- the kind that stands in a record's key is the record's
pub key_kind : (r : Record) → (key_of r).kind ≡ kind_of r
unfolding key_of kind_of
key_kind (Head m v e) = refl
key_kind (Event n o c) = refl
key_kind (Module n st i) = refl
key_kind (ModuleMove m f e t) = refl
key_kind (Supervisor n st i a) = refl
key_kind (SupervisorMove v f e t) = refl
key_kind (Disabling v st m) = refl
key_kind (Step e i o x) = refl
key_kind (Marking m st) = refl
key_kind End = refl
