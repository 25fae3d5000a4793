-- What the code is told of a look-up, in the definitions' terms: its answer y, and which case y is.
use Rattle.std.specs.Prelude.{Option, Some, None}
use mathlib.Core.Path.{◌≡◌, refl, sym, ap, ◌∙◌, subst}
use mathlib.Core.List.{List}
use mathlib.Core.Bool.{Bool, true, false, cond, not, ◌&&◌, ◌||◌}
use Prim.Native.Nat.{ℕ, ◌+◌}
use lib.ListN.{drop, get_or}
use lib.Seq.{get_or-drop}
use lib.Dec.{eqb, ltb}
use Rattle.words.specs.Word.{word_at}
use Rattle.words.proofs.Laws.{word_drop}
use Rattle.records.specs.Key.{key_by}
use Rattle.records.specs.Range.{in_range}
use Rattle.records.specs.declared.Record.{Record}
use Rattle.reader.specs.Read.{record_of}
use Rattle.reader.specs.Find.{find_in}
use Rattle.places.specs.declared.Places.{Places}
use Rattle.places.specs.Places.{spot_of, records_by}
use Rattle.places.specs.Runs.{is_move}
use Rattle.places.proofs.Keys.{of_moves}
use Rattle.places.proofs.Spots.{look_missing, look_it}
use Rattle.rules.specs.LookUp.{word_field, field_of}
use Rattle.plan.specs.declared.Fields.{Fields}
use Rattle.plan.specs.Plan.{field4, target, state_or, in_alphabet, shown, supervisor_moved, supervisor_after, counts, counting}
use Rattle.plan.specs.Fields.{fields_of, FieldsFound}

module _ {x y : Option Record} (p : y ≡ x) where
  pub fields_none : {f : Fields} → y ≡ None → f ≡ record { first = 0; second = 0; third = 0; word = 0 } → FieldsFound x f
  unfolding field_of
  fields_none {f} q e =
      subst (λ (z : Option Record). FieldsFound z f) (sym q ∙ p) (subst (FieldsFound None) (sym e) (record { first = refl; second = refl; third = refl; word = refl }))

  pub step_none : y ≡ None → None ≡ counting x
  unfolding counting
  step_none q = ap counting (sym q ∙ p)

  module _ {r : Record} (q : y ≡ Some r) {f : Fields} (e : f ≡ fields_of r) where
    pub fields_it : FieldsFound x f
    unfolding field_of
    fields_it =
        subst (λ (z : Option Record). FieldsFound z f) (sym q ∙ p) (subst (FieldsFound (Some r)) (sym e) (record { first = refl; second = refl; third = refl; word = refl }))

    module _ {t : Bool} (i : t ≡ in_range r) where
      tested : (t && (not (eqb f.third 5) || ltb f.word 64)) ≡ counts r
      tested = ap (λ (g : Fields). t && (not (eqb g.third 5) || ltb g.word 64)) e ∙ ap (λ (b : Bool). b && (not (eqb (fields_of r).third 5) || ltb (fields_of r).word 64)) i

      pub step_it : (t && (not (eqb f.third 5) || ltb f.word 64)) ≡ true → Some r ≡ counting x
      unfolding counting
      step_it h = ap (λ (b : Bool). cond b (Some r) None) (sym h ∙ tested) ∙ ap counting (sym q ∙ p)

      pub step_out : (t && (not (eqb f.third 5) || ltb f.word 64)) ≡ false → None ≡ counting x
      unfolding counting
      step_out h = ap (λ (b : Bool). cond b (Some r) None) (sym h ∙ tested) ∙ ap counting (sym q ∙ p)

-- what stands at the place that a look-up leads to
module _ (s : List ℕ) (p : Places) {a : ℕ} where
  pub shown_none : (v st : ℕ) → a ≡ spot_of s p (key_by 0x16 v st 0) → a ≡ 0 → 0 ≡ shown (records_by s p) v st
  unfolding field_of
  shown_none v st e z = ap (field_of word_field) (look_missing s p (key_by 0x16 v st 0) e z)

  pub shown_it : (v st : ℕ) {w : ℕ} → a ≡ spot_of s p (key_by 0x16 v st 0) → (a ≡ 0 → ⊥) → w ≡ word_at s (a + 2) → w ≡ shown (records_by s p) v st
  unfolding field_of word_field record_of
  shown_it v st e z f = f ∙ sym (word_drop a s 2) ∙ ap (field_of word_field) (look_it s p (key_by 0x16 v st 0) e z refl)

  module _ (k o f e : ℕ) (m : is_move k ≡ true) (g : a ≡ spot_of s p (key_by k o f e)) where
    pub target_none : a ≡ 0 → None ≡ target (find_in (key_by k o f e) (records_by s p))
    unfolding target
    target_none z = ap target (look_missing s p (key_by k o f e) g z)

    pub target_it : {t : ℕ} → (a ≡ 0 → ⊥) → t ≡ get_or s (a + 3) 0 → Some t ≡ target (find_in (key_by k o f e) (records_by s p))
    unfolding target field4 record_of
    target_it z h = ap Some (h ∙ sym (fourth k m)) ∙ ap target (look_it s p (key_by k o f e) g z refl)
      where
        fourth : (j : ℕ) → is_move j ≡ true → field4 (record_of j (drop a s)) ≡ get_or s (a + 3) 0
        fourth j n = of_moves (λ (i : ℕ). field4 (record_of i (drop a s)) ≡ get_or s (a + 3) 0) j n (simp get_or-drop) (simp get_or-drop)

-- a supervisor's move, as it is listed or not
pub moved_by : (st : ℕ) {o : Option ℕ} {x y : Option ℕ} {t : ℕ} → y ≡ o → y ≡ x → t ≡ state_or x st → t ≡ state_or o st
moved_by st m q e = e ∙ ap (λ (z : Option ℕ). state_or z st) ((sym q) ∙ m)

-- a supervisor after an event
module _ (rs : List Record) (v st e : ℕ) {b : Bool} (a : b ≡ in_alphabet rs v e) where
  pub after_outside : b ≡ false → st ≡ supervisor_after rs v st e
  unfolding supervisor_after
  after_outside h = ap (λ (z : Bool). cond z (supervisor_moved rs v st e) st) (sym h ∙ a)

  pub after_inside : {t : ℕ} → b ≡ true → t ≡ supervisor_moved rs v st e → t ≡ supervisor_after rs v st e
  unfolding supervisor_after
  after_inside h m = m ∙ ap (λ (z : Bool). cond z (supervisor_moved rs v st e) st) (sym h ∙ a)
