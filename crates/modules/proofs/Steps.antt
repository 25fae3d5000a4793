-- A step that a look-up finds: it is a step with that key, and its fields are in range.
use Rattle.std.specs.Prelude.{Option, Some, None}
use Prim.Native.Nat.{ℕ, ◌≤◌, ◌<◌}
use native.Mathlib.Omega.{arith}
use mathlib.Core.Path.{◌≡◌, refl, sym, ap, ap₂, ◌∙◌, subst}
use mathlib.Core.List.{List, [], ◌∷◌}
use mathlib.Core.Bool.{Bool, true, false, cond, not, ◌||◌, false≢true}
use lib.Dec.{T, eqb, ltb, leb, eqb→eq, leb→le, ltb→lt}
use lib.Ieee.Fits.{and_r}
use denote.Floats.{passes, is_true}
use borrow.Author.Tests.{ne_eqb}
use Rattle.records.specs.Key.{key_by, key_of, same_key}
use Rattle.records.specs.Range.{in_range, operand_in_range}
use Rattle.records.specs.declared.Record.{Record}
use Rattle.records.specs.declared.Record.TheVariants.{Step, Disabling, End, Event, Head, Marking, Module, ModuleMove, Supervisor, SupervisorMove}
use Rattle.records.specs.declared.RecordKey.{RecordKey}
use Rattle.reader.specs.Find.{find_in, found}
use Rattle.rules.specs.LookUp.{field3, word_field, field_of}
use Rattle.rules.proofs.Valid.{both}
use Rattle.plan.specs.Plan.{counts, counting, procedure_step, operation_of, operand_of}
use Rattle.modules.specs.declared.StepFields.{StepFields}
use Rattle.modules.specs.StepFields.{step_fields_of}

-- what a look-up finds has the kind and key
found_key : (p : RecordKey) (rs : List Record) (r : Record) → find_in p rs ≡ Some r → T (same_key (key_of r) p)
unfolding find_in
found_key p [] r e = let z : ◌≡◌ {A = ℕ} 0 1 = cc in absurd (omega arith)
found_key p (x ∷ rs) r e = go (same_key (key_of x) p) refl e (found_key p rs r)
  where
    go : (b : Bool) → same_key (key_of x) p ≡ b → cond b (Some x) (find_in p rs) ≡ Some r → (find_in p rs ≡ Some r → T (same_key (key_of r) p)) → T (same_key (key_of r) p)
    go true s e f = let q : x ≡ r = cc in subst (λ (y : Record). T (same_key (key_of y) p)) q (passes _ s)
    go false s e f = f e

-- by a step's key only a step
step_key : (e i : ℕ) (r : Record) → T (same_key (key_of r) (key_by 0x17 e i 0)) → Step e i (field3 r) (word_field r) ≡ r
unfolding key_of same_key field3 word_field
step_key e i (Head _ _ _) t = elim t [ ]
step_key e i (Event _ _ _) t = elim t [ ]
step_key e i (Module _ _ _) t = elim t [ ]
step_key e i (ModuleMove _ _ _ _) t = elim t [ ]
step_key e i (Supervisor _ _ _ _) t = elim t [ ]
step_key e i (SupervisorMove _ _ _ _) t = elim t [ ]
step_key e i (Disabling _ _ _) t = elim t [ ]
step_key e i (Marking _ _) t = elim t [ ]
step_key e i End t = elim t [ ]
step_key e i (Step a b o x) t =
    let p : a ≡ e = eqb→eq a e (search both) in
    let q : b ≡ i = eqb→eq b i (search both) in
    ap₂ (λ (c d : ℕ). Step c d o x) (sym p) (sym q)

module _ (rs : List Record) (e i : ℕ) where
  -- what is found as a step counts
  step_found : (r : Record) → procedure_step rs e i ≡ Some r → (Step e i (field3 r) (word_field r) ≡ r) × (counts r ≡ true)
  unfolding counting
  step_found r h = go (find_in (key_by 0x17 e i 0) rs) refl h
    where
      picked : (x : Record) (b : Bool) → counts x ≡ b → find_in (key_by 0x17 e i 0) rs ≡ Some x → cond b (Some x) None ≡ Some r → (Step e i (field3 r) (word_field r) ≡ r) × (counts r ≡ true)
      picked x true c k h =
          let q : x ≡ r = cc in
          (step_key e i r (found_key (key_by 0x17 e i 0) rs r (k ∙ ap Some q)), ap counts (sym q) ∙ c)
      picked x false c k h = let z : ◌≡◌ {A = ℕ} 0 1 = cc in absurd (omega arith)

      go : (f : Option Record) → find_in (key_by 0x17 e i 0) rs ≡ f → counting f ≡ Some r → (Step e i (field3 r) (word_field r) ≡ r) × (counts r ≡ true)
      go (Some x) k h = picked x (counts x) refl k h
      go None k h = let z : ◌≡◌ {A = ℕ} 0 1 = cc in absurd (omega arith)

  -- the same by its fields
  pub step_counts : found (procedure_step rs e i) ≡ true → counts (Step e i (operation_of rs e i) (operand_of rs e i)) ≡ true
  unfolding found field_of
  step_counts h = go (procedure_step rs e i) refl h
    where
      go : (f : Option Record) → procedure_step rs e i ≡ f → found f ≡ true → counts (Step e i (field_of field3 f) (field_of word_field f)) ≡ true
      go (Some r) k h = let p = step_found r k in ap counts p.0 ∙ p.1
      go None k h = absurd (false≢true h)

  -- ---- what the code is told of a step

  module _ {y : Option Record} (p : y ≡ procedure_step rs e i) where
    pub no_step : {w : StepFields} → y ≡ None → w ≡ record { present = false; operation = 0; operand = 0 } → w ≡ step_fields_of rs e i
    unfolding found field_of
    no_step q z = z ∙ ap (λ (f : Option Record). record { present = found f; operation = field_of field3 f; operand = field_of word_field f }) (sym q ∙ p)

    pub a_step : {r : Record} {a b o x : ℕ} → y ≡ Some r → r ≡ Step a b o x → record { present = true; operation = o; operand = x } ≡ step_fields_of rs e i
    unfolding found field_of field3 word_field
    a_step {r} {a} {b} {o} {x} q s = ap (λ (f : Option Record). record { present = found f; operation = field_of field3 f; operand = field_of word_field f }) (ap Some (sym s) ∙ sym q ∙ p)

    pub not_a_step : {r : Record} {w : StepFields} → y ≡ Some r → ((a b o x : ℕ) → r ≡ Step a b o x → ⊥) → w ≡ step_fields_of rs e i
    not_a_step {r} q o = absurd (o e i (field3 r) (word_field r) (sym (step_found r (sym p ∙ q)).0))

-- ---- the ranges of a step that counts

module _ (e i o x : ℕ) (h : counts (Step e i o x) ≡ true) where
  pub index_small : i < 64
  unfolding in_range
  index_small = let t : T (counts (Step e i o x)) = passes _ h in let l : i ≤ 63 = leb→le i 63 (search both) in omega arith

  in_range_lem : operand_in_range o x ≡ true
  unfolding in_range
  in_range_lem = let t : T (counts (Step e i o x)) = passes _ h in is_true (operand_in_range o x) (search both)

  output_small : (eqb o 1 || eqb o 2) ≡ true → x < 32
  unfolding operand_in_range
  output_small q = let l : x ≤ 31 = leb→le x 31 (passes (leb x 31) (simp q at in_range_lem)) in omega arith

  pub on_small : o ≡ 1 → x < 32
  on_small q = output_small (ap (λ (k : ℕ). eqb k 1 || eqb k 2) q)

  pub off_small : o ≡ 2 → x < 32
  off_small q = output_small (ap (λ (k : ℕ). eqb k 1 || eqb k 2) q)

  pub wait_small : o ≡ 3 → x < 65536
  unfolding operand_in_range
  wait_small q =
      let t : T (operand_in_range 3 x) = subst (λ (k : ℕ). T (operand_in_range k x)) q (passes _ in_range_lem) in
      let l : x ≤ 65535 = leb→le x 65535 (search both) in omega arith

  pub respond_small : (o ≡ 1 → ⊥) → (o ≡ 2 → ⊥) → (o ≡ 3 → ⊥) → (o ≡ 4 → ⊥) → x < 64
  unfolding operand_in_range in_range field3 word_field
  respond_small a b c d =
      let five : eqb o 5 ≡ true = simp (ne_eqb o 1 a, ne_eqb o 2 b, ne_eqb o 3 c, ne_eqb o 4 d) at in_range_lem in
      let t : T (counts (Step e i o x)) = passes _ h in
      let u : T (not (eqb o 5) || ltb x 64) = and_r (in_range (Step e i o x)) (not (eqb o 5) || ltb x 64) t in
      ltb→lt x 64 (subst (λ (b : Bool). T (not b || ltb x 64)) five u)
