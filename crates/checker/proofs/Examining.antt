-- What a caller learns from the answer of `examine`.
use Rattle.std.specs.Prelude.{Result, Ok, Err, ⊤}
use Rattle.refusal.specs.Refusal.{refused_number, refused_offset}
use Rattle.refusal.specs.declared.Refusal.{Refusal}
use Rattle.std.proofs.Common.{◌≡◌, ℕ, List, sym, refl, ap, ◌∙◌, ap₂}
use Rattle.records.specs.declared.Record.{Record}
use Rattle.reader.specs.Walk.{records_of}
use Rattle.places.specs.Places.{places_of, records_by}
use Rattle.places.specs.declared.Places.{Places}
use Rattle.placed.proofs.Placed.{all_found}
use Rattle.rules.specs.Check.{verdict_of}
use Rattle.checker.specs.Examined.{examined_by, examined_of, ExaminedAs}

-- the verdict, and the places, that an answer tells
verdict_in : Result Places Refusal → Result ⊤ Refusal
verdict_in (Ok p) = Ok tt
verdict_in (Err e) = Err e

places_in : Places → Result Places Refusal → Places
places_in d (Ok p) = p
places_in d (Err e) = d

module _ (s : List ℕ) where
  told : verdict_in (examined_of s) ≡ verdict_of s
  unfolding examined_of examined_by verdict_in
  told = go (verdict_of s)
    where
      go : (v : Result ⊤ Refusal) → verdict_in (examined_by (places_of s) v) ≡ v
      go (Ok u) = refl
      go (Err e) = refl

  places_told : places_in (places_of s) (examined_of s) ≡ places_of s
  unfolding examined_of examined_by places_in
  places_told = go (verdict_of s)
    where
      go : (v : Result ⊤ Refusal) → places_in (places_of s) (examined_by (places_of s) v) ≡ places_of s
      go (Ok u) = refl
      go (Err e) = refl

  verdict_by : {x : Result Places Refusal} → x ≡ examined_of s → verdict_in x ≡ verdict_of s
  verdict_by e = ap verdict_in e ∙ told

  pub accepted_by : {x : Result Places Refusal} {p : Places} → x ≡ examined_of s → x ≡ Ok p → verdict_of s ≡ Ok tt
  unfolding verdict_in
  accepted_by e g = sym (verdict_by e) ∙ ap verdict_in g

  pub places_by : {x : Result Places Refusal} {p : Places} → x ≡ examined_of s → x ≡ Ok p → p ≡ places_of s
  unfolding places_in
  places_by e g = sym (ap (places_in (places_of s)) g) ∙ ap (places_in (places_of s)) e ∙ places_told

  pub refused_is : {x : Result Places Refusal} {e : Refusal} → x ≡ examined_of s → x ≡ Err e → verdict_of s ≡ Err e
  unfolding verdict_in
  refused_is e g = sym (verdict_by e) ∙ ap verdict_in g

  -- the same the other way round
  pub accepts : {x : Result Places Refusal} {p : Places} → x ≡ examined_of s → x ≡ Ok p → Ok tt ≡ verdict_of s
  accepts e g = sym (accepted_by e g)

  pub refuses : {x : Result Places Refusal} {e : Refusal} → x ≡ examined_of s → x ≡ Err e → Err e ≡ verdict_of s
  refuses e g = sym (refused_is e g)

  -- the number and the offset of its case are the verdict's
  pub examined_as : {x : Result Places Refusal} → x ≡ examined_of s → ExaminedAs s x
  unfolding examined_of examined_by
  examined_as e = record { answer = e; number = ap refused_number e ∙ number (verdict_of s); offset = ap refused_offset e ∙ offset (verdict_of s) }
    where
      number : (v : Result ⊤ Refusal) → refused_number (examined_by (places_of s) v) ≡ refused_number v
      number (Ok u) = refl
      number (Err e) = refl

      offset : (v : Result ⊤ Refusal) → refused_offset (examined_by (places_of s) v) ≡ refused_offset v
      offset (Ok u) = refl
      offset (Err e) = refl

  -- a look-up by the places finds the plan's records
  pub records_by_lem : {x : Result Places Refusal} {p : Places} → x ≡ examined_of s → x ≡ Ok p → records_by s p ≡ records_of s
  records_by_lem e g = ap (records_by s) (places_by e g) ∙ all_found s (accepted_by e g)

  -- what a call gives by the verdict and the records: of a plan that is accepted with its places, and of an image that is refused
  module _ {x : Result Places Refusal} (e : x ≡ examined_of s) {A : Type 0} (f : Result ⊤ Refusal → List Record → A) where
    pub call_by : {p : Places} → x ≡ Ok p → f (Ok tt) (records_by s p) ≡ f (verdict_of s) (records_of s)
    call_by g = ap₂ f (accepts e g) (records_by_lem e g)

    pub refused_call : {e : Refusal} → x ≡ Err e → f (Err e) (records_of s) ≡ f (verdict_of s) (records_of s)
    refused_call g = ap (λ (v : Result ⊤ Refusal). f v (records_of s)) (refuses e g)
