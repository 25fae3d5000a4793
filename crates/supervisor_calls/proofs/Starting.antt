-- The start, from what the code is told: d, the image as it was examined, and the count k of supervisors.
use Rattle.std.specs.Prelude.{Result, Ok, Err}
use Rattle.refusal.specs.Refusal.{refusal}
use Rattle.refusal.specs.declared.Refusal.{Refusal}
use mathlib.Core.Path.{◌≡◌, refl, ap, ◌∙◌}
use mathlib.Core.List.{List}
use Prim.Native.Nat.{ℕ, ◌≤◌, ◌<◌}
use Rattle.rules.specs.LookUp.{supervisors_of}
use Rattle.places.specs.declared.Places.{Places}
use Rattle.places.specs.Places.{records_by}
use Rattle.checker.specs.Examined.{examined_of}
use Rattle.checker.proofs.Examining.{call_by, refused_call}
use Rattle.plan.specs.Plan.{supervisor_initial}
use Rattle.permits.specs.Supervisor.{with_state, with_last, call_refused, empty_supervisor, start_by, supervisor_start}
use Rattle.permits.specs.declared.Supervisor.{Supervisor}
use Rattle.permits.specs.declared.SupervisorCalled.{SupervisorCalled}
use Rattle.noting.proofs.Planned.{present, lacking}

module _ (image : List ℕ) (v : ℕ) {d : Result Places Refusal} (e : d ≡ examined_of image) where
  pub start_refused : {n o : ℕ} {y : Supervisor} {r : SupervisorCalled} → d ≡ Err (refusal n o) → y ≡ empty_supervisor → r ≡ call_refused y n o → r ≡ supervisor_start image v
  unfolding start_by
  start_refused {n = n} {o = o} f g h = h ∙ ap (λ (y : Supervisor). call_refused y n o) g ∙ refused_call image e (λ w rs. start_by w rs v) f

  module _ {p : Places} {k : ℕ} (f : d ≡ Ok p) (c : k ≡ supervisors_of (records_by image p)) where
    by : start_by (Ok tt) (records_by image p) v ≡ supervisor_start image v
    by = call_by image e (λ w rs. start_by w rs v) f

    pub start_absent : {y : Supervisor} {r : SupervisorCalled} → k ≤ v → y ≡ empty_supervisor → r ≡ call_refused y 11 0 → r ≡ supervisor_start image v
    unfolding start_by
    start_absent l g h = h ∙ simp (lacking (records_by image p) v c l, g) refl ∙ by

    pub start_done : {y : Supervisor} {st : ℕ} → v < k → y ≡ empty_supervisor → st ≡ supervisor_initial (records_by image p) v
        → (record { answer = Ok tt; state = with_last (with_state y st) 15 }) ≡ supervisor_start image v
    unfolding start_by
    start_done l h g = simp (present (records_by image p) v c l, g, h) refl ∙ by
