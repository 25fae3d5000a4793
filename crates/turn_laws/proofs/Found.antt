-- What a look-up by kind and key finds in an accepted plan, and what the plan asks of it.
use Rattle.std.specs.Prelude.{Option, Some, None}
use Prim.Native.Nat.{ℕ}
use native.Mathlib.Omega.{arith}
use mathlib.Core.Path.{◌≡◌, refl, sym, ap, ◌∙◌, subst}
use mathlib.Core.List.Memᴰ
use mathlib.Core.List.{List}
use mathlib.Core.Bool.{Bool, true, false, cond, not, ◌||◌, false≢true}
use lib.Dec.{T, eqb, ltb, lt→ltb}
use lib.Ieee.Fits.{and_i}
use borrow.Author.Tests.{eqb-true}
use denote.Floats.{passes as holds, is_true}
use Rattle.records.specs.Range.{in_range}
use Rattle.records.specs.Key.{key_by, key_of}
use Rattle.records.specs.declared.Record.{Record}
use Rattle.records.specs.declared.Record.TheVariants.{Head, Event, Module, ModuleMove, Supervisor, SupervisorMove, Disabling, Step, Marking, End}
use Rattle.records.specs.declared.RecordKey.{RecordKey}
use Rattle.reader.specs.Find.{find_in, found}
use Rattle.rules.specs.LookUp.{field2, field3, word_field, field_of, module_in, supervisor_in, alphabet_of}
use Rattle.plan.specs.Plan.{field4, target, module_move, supervisor_move, shown, counts, counting, procedure_step, operation_of, operand_of}
use Rattle.accepted.specs.Plan.{◌∈◌, ModuleLaw, ModuleMoveLaw, SupervisorLaw, SupervisorMoveLaw, DisablingLaw, StepLaw, Sound}
use Rattle.accepted.proofs.Look.{some_found}

-- the record of a kind and key with the other fields of r
abbrev pub keyed : RecordKey → Record → Record
keyed p r =
    cond (eqb p.kind 0x12) (Module p.first (field2 r) (field3 r))
    (cond (eqb p.kind 0x13) (ModuleMove p.first p.second p.third (field4 r))
    (cond (eqb p.kind 0x14) (Supervisor p.first (field2 r) (field3 r) (word_field r))
    (cond (eqb p.kind 0x15) (SupervisorMove p.first p.second p.third (field4 r))
    (cond (eqb p.kind 0x16) (Disabling p.first p.second (word_field r))
    (cond (eqb p.kind 0x17) (Step p.first p.second (field3 r) (word_field r)) r)))))

keyed_is : (r : Record) → keyed (key_of r) r ≡ r
unfolding key_of field2 field3 field4 word_field
keyed_is (Head m v e) = refl
keyed_is (Event n o c) = refl
keyed_is (Module n st i) = refl
keyed_is (ModuleMove m f e t) = refl
keyed_is (Supervisor n st i a) = refl
keyed_is (SupervisorMove v f e t) = refl
keyed_is (Disabling v st m) = refl
keyed_is (Step e i o x) = refl
keyed_is (Marking m st) = refl
keyed_is End = refl

-- a move leads somewhere only where one is listed
led : (l : Option Record) (y : ℕ) → target l ≡ Some y → T (found l)
unfolding target found
led (Some r) y e = tt
led None y e = let z : ◌≡◌ {A = ℕ} 0 1 = cc in absurd (omega arith)

leads : (P : ℕ → Type 0) (x y : ℕ) → Some x ≡ Some y → P x → P y
leads P x y e p = let h : x ≡ y = cc in subst P h p

-- a step that counts is the one found
counted : (l : Option Record) → T (found (counting l)) → counting l ≡ l
unfolding counting found
counted None t = refl
counted (Some r) t = go (counts r) t
  where
    go : (b : Bool) → T (found (cond b (Some r) None)) → cond b (Some r) None ≡ Some r
    go true u = refl
    go false u = absurd u

module _ (rs : List Record) (plan : Sound rs) where
  -- what holds of the record of a kind and key holds of what the look-up finds
  pub at : (p : RecordKey) (P : Option Record → Type 0) → ((r : Record) → keyed p r ∈ rs → P (Some (keyed p r))) → T (found (find_in p rs)) → P (find_in p rs)
  at p P h t =
      let s = some_found p rs t in
      let k : keyed p s.0 ≡ s.0 = ap (λ (q : RecordKey). keyed q s.0) (sym s.2) ∙ keyed_is s.0 in
      let f : Some (keyed p s.0) ≡ find_in p rs = ap Some k ∙ sym (plan.finds s.0 s.1) ∙ ap (λ (q : RecordKey). find_in q rs) s.2 in
      subst P f (h s.0 (Memᴰ.cast k s.1))

  pub module_law : (m : ℕ) → T (found (module_in rs m)) → ModuleLaw rs m (field_of field2 (module_in rs m)) (field_of field3 (module_in rs m))
  unfolding field_of field2 field3
  module_law m = at (key_by 0x12 m 0 0) (λ l. ModuleLaw rs m (field_of field2 l) (field_of field3 l)) (λ r. plan.laws (keyed (key_by 0x12 m 0 0) r))

  pub module_move_lem : (m x e y : ℕ) → module_move rs m x e ≡ Some y → ModuleMoveLaw rs m x e y
  unfolding target field4
  module_move_lem m x e y q =
      let p : RecordKey = key_by 0x13 m x e in
      at p (λ l. target l ≡ Some y → ModuleMoveLaw rs m x e y)
      (λ r n k. leads (ModuleMoveLaw rs m x e) (field4 r) y k (plan.laws (keyed p r) n)) (led (find_in p rs) y q) q

  pub supervisor_law : (v : ℕ) → T (found (supervisor_in rs v)) → SupervisorLaw rs v (field_of field2 (supervisor_in rs v)) (field_of field3 (supervisor_in rs v)) (alphabet_of rs v)
  unfolding field_of field2 field3 word_field
  supervisor_law v =
      at (key_by 0x14 v 0 0) (λ l. SupervisorLaw rs v (field_of field2 l) (field_of field3 l) (field_of word_field l)) (λ r. plan.laws (keyed (key_by 0x14 v 0 0) r))

  pub supervisor_move_lem : (v x e y : ℕ) → supervisor_move rs v x e ≡ Some y → SupervisorMoveLaw rs v x e y
  unfolding target field4
  supervisor_move_lem v x e y q =
      let p : RecordKey = key_by 0x15 v x e in
      at p (λ l. target l ≡ Some y → SupervisorMoveLaw rs v x e y)
      (λ r n k. leads (SupervisorMoveLaw rs v x e) (field4 r) y k (plan.laws (keyed p r) n)) (led (find_in p rs) y q) q

  pub disabling_law : (v x : ℕ) → T (found (find_in (key_by 0x16 v x 0) rs)) → DisablingLaw rs v x (shown rs v x)
  unfolding field_of word_field
  disabling_law v x = at (key_by 0x16 v x 0) (λ l. DisablingLaw rs v x (field_of word_field l)) (λ r. plan.laws (keyed (key_by 0x16 v x 0) r))

  pub step_law : (e i : ℕ) → T (found (procedure_step rs e i)) → StepLaw rs e i (operation_of rs e i) (operand_of rs e i)
  unfolding field_of field3 word_field
  step_law e i t =
      let p : RecordKey = key_by 0x17 e i 0 in
      let c : procedure_step rs e i ≡ find_in p rs = counted (find_in p rs) t in
      subst (λ (l : Option Record). StepLaw rs e i (field_of field3 l) (field_of word_field l)) (sym c)
      (at p (λ l. StepLaw rs e i (field_of field3 l) (field_of word_field l)) (λ r. plan.laws (keyed p r)) (subst (λ (l : Option Record). T (found l)) c t))

  -- every listed step counts: its fields are in range, and what it responds with is an event's number
  pub step_listed : (e i : ℕ) → procedure_step rs e i ≡ find_in (key_by 0x17 e i 0) rs
  unfolding counting found field3 word_field
  step_listed e i = go (find_in p rs) refl (found (find_in p rs)) refl
    where
      p : RecordKey
      p = key_by 0x17 e i 0

      respond : (r : Record) → keyed p r ∈ rs → (b : Bool) → eqb (field3 r) 5 ≡ b → T (not b || ltb (word_field r) 64)
      respond r n true q =
          let l = (plan.laws (keyed p r) n).respond (eqb-true (field3 r) 5 q) in
          lt→ltb (word_field r) 64 (omega (arith, l.event, plan.events.1))
      respond r n false q = tt

      go : (l : Option Record) → find_in p rs ≡ l → (b : Bool) → found (find_in p rs) ≡ b → counting (find_in p rs) ≡ find_in p rs
      go l q true f =
          at p (λ l. counting l ≡ l)
          (λ r n. ap (λ (b : Bool). cond b (Some (keyed p r)) None) (is_true (counts (keyed p r)) (and_i (in_range (keyed p r)) _ (holds _ (plan.ranges (keyed p r) n)) (respond r n (eqb (field3 r) 5) refl))))
          (holds _ f)
      go None q false f = rw q refl
      go (Some r) q false f = absurd (false≢true (sym f ∙ ap found q))
