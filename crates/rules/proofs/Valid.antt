-- Laws of lists of records of which none is faulty.
use Rattle.std.specs.Prelude.{Option, Some}
use Prim.Native.Nat.{ℕ, suc, ◌≤◌, ◌<◌}
use mathlib.Core.Path.{◌≡◌, refl, sym, ap, ◌∙◌, subst}
use mathlib.Core.List.{List, [], ◌∷◌}
use mathlib.Core.Bool.{Bool, true, false, cond, ◌&&◌, false≢true}
use native.Mathlib.Omega.{arith}
use lib.Dec.{T, ltb, eqb→eq, ltb→lt, leb→le}
use lib.Ieee.Fits.{and_l, and_r}
use denote.Floats.{passes as holds}
use Rattle.records.specs.Kinds.{kind_of}
use Rattle.records.specs.Key.{head_key, key_of, same_key, precedes}
use Rattle.records.specs.Range.{in_range}
use Rattle.records.specs.declared.Record.{Record}
use Rattle.records.specs.declared.Record.TheVariants.{Head, Event, Module, ModuleMove, Supervisor, SupervisorMove, Disabling, Step, Marking, End}
use Rattle.reader.specs.Find.{find_in}
use Rattle.rules.specs.LookUp.{field1, field2, field3, field_of, steps_of}
use Rattle.rules.specs.Rules.{in_order, index_runs, names_declared, keeps_rules, all_declared}
use Rattle.rules.specs.Check.{fault_of}
use Rattle.rules.specs.Valid.{Valid, Passes}

-- the parts of a test joined by &&
pub ruleset both = (and_l, and_r)

-- a chain of tests that gives 0 has gone past its first one
past : (b : Bool) (x n : ℕ) → cond b x (suc n) ≡ 0 → (b ≡ true) × (x ≡ 0)
past true x n e = (refl, e)
past false x n e = absurd (omega arith)

pub passes : (rs : List Record) (r : Record) → fault_of rs r ≡ 0 → Passes rs r
unfolding fault_of
passes rs r e =
    let p4 = past (in_order rs r) _ _ e in
    let p5 = past (in_range r) _ _ p4.1 in
    let p6 = past (names_declared rs r) _ _ p5.1 in
    let p7 = past (keeps_rules rs r) _ _ p6.1 in
    let p8 = past (all_declared rs r) _ _ p7.1 in
    record { order = p4.0; range = p5.0; names = p6.0; rules = p7.0; whole = p8.0 }

-- a declared number is below its count
pub declared_below : (e n : ℕ) (b : Bool) → (ltb e n && b) ≡ true → e < n
declared_below e n b h = let t : T (ltb e n && b) = holds _ h in ltb→lt e n (search both)

-- a step in order has the index that its event's steps have come to
pub index_is : (rs : List Record) (e i o x : ℕ) → in_order rs (Step e i o x) ≡ true → i ≡ steps_of rs e
unfolding in_order index_runs kind_of
index_is [] e i o x h = absurd (false≢true h)
index_is (p ∷ rs) e i o x h = let t : T (in_order (p ∷ rs) (Step e i o x)) = holds _ h in eqb→eq i (steps_of (p ∷ rs) e) (search both)

-- ---- the head

-- the first record is a head
pub first_head : (r : Record) → Passes [] r → r ≡ Head (field1 r) (field2 r) (field3 r)
unfolding in_order kind_of field1 field2 field3
first_head (Head m v e) t = refl
first_head (Event n o c) t = absurd (false≢true t.order)
first_head (Module n st i) t = absurd (false≢true t.order)
first_head (ModuleMove m f e g) t = absurd (false≢true t.order)
first_head (Supervisor n st i a) t = absurd (false≢true t.order)
first_head (SupervisorMove v f e g) t = absurd (false≢true t.order)
first_head (Disabling v st m) t = absurd (false≢true t.order)
first_head (Step x i o y) t = absurd (false≢true t.order)
first_head (Marking m st) t = absurd (false≢true t.order)
first_head End t = absurd (false≢true t.order)

-- no head comes after another record
no_head : (p : Record) (m v e : ℕ) → T (precedes (key_of p) (key_of (Head m v e))) → ⊥
unfolding precedes key_of
no_head (Head a b c) m v e h = h
no_head (Event a b c) m v e h = h
no_head (Module a b c) m v e h = h
no_head (ModuleMove a b c d) m v e h = h
no_head (Supervisor a b c d) m v e h = h
no_head (SupervisorMove a b c d) m v e h = h
no_head (Disabling a b c) m v e h = h
no_head (Step a b c d) m v e h = h
no_head (Marking a b) m v e h = h
no_head End m v e h = h

-- so the head that a look-up finds stays the same
pub head_kept : (p : Record) (ps : List Record) (r : Record) → Passes (p ∷ ps) r → find_in head_key (r ∷ p ∷ ps) ≡ find_in head_key (p ∷ ps)
unfolding in_order find_in key_of same_key
head_kept p ps (Head m v e) t =
    absurd (no_head p m v e (and_l (precedes (key_of p) (key_of (Head m v e))) (index_runs (p ∷ ps) (Head m v e)) (holds _ t.order)))
head_kept p ps (Event n o c) t = refl
head_kept p ps (Module n st i) t = refl
head_kept p ps (ModuleMove m f e g) t = refl
head_kept p ps (Supervisor n st i a) t = refl
head_kept p ps (SupervisorMove v f e g) t = refl
head_kept p ps (Disabling v st m) t = refl
head_kept p ps (Step x i o y) t = refl
head_kept p ps (Marking m st) t = refl
head_kept p ps End t = refl

pub record Headed (rs : List Record) : Type 0 where
  pub modules : ℕ
  pub supervisors : ℕ
  pub events : ℕ
  pub finds : find_in head_key rs ≡ Some (Head modules supervisors events)
  pub range : in_range (Head modules supervisors events) ≡ true

pub headed : (r : Record) (rs : List Record) → Valid (r ∷ rs) → Headed (r ∷ rs)
unfolding Valid find_in key_of same_key
headed r [] v =
    let t = passes [] r v.0 in
    let e = first_head r t in
    record { modules = field1 r; supervisors = field2 r; events = field3 r; finds = ap (λ (x : Record). find_in head_key (x ∷ [])) e; range = sym (ap in_range e) ∙ t.range }
headed r (p ∷ ps) v =
    let h = headed p ps v.1 in
    record { modules = h.modules; supervisors = h.supervisors; events = h.events; finds = head_kept p ps r (passes (p ∷ ps) r v.0) ∙ h.finds; range = h.range }

-- the head's counts are in range
pub record Counted (f : Option Record) : Type 0 where
  pub modules : (1 ≤ field_of field1 f) × (field_of field1 f ≤ 16)
  pub supervisors : field_of field2 f ≤ 32
  pub events : (1 ≤ field_of field3 f) × (field_of field3 f ≤ 64)

pub counted : (rs : List Record) → Headed rs → Counted (find_in head_key rs)
unfolding in_range field_of field1 field2 field3
counted rs h =
    let t : T (in_range (Head h.modules h.supervisors h.events)) = holds _ h.range in
    subst Counted (sym h.finds)
    (record {
      modules = (leb→le 1 h.modules (search both), leb→le h.modules 16 (search both));
      supervisors = leb→le h.supervisors 32 (search both);
      events = (leb→le 1 h.events (search both), leb→le h.events 64 (search both));
    })
