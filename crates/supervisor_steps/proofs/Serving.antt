-- The step, from what the code is told.
use Rattle.std.specs.Prelude.{Option, Some, None, Result, Ok, Err}
use Rattle.refusal.specs.Refusal.{refusal}
use Rattle.refusal.specs.declared.Refusal.{Refusal}
use mathlib.Core.Path.{◌≡◌, refl, sym, ap, ◌∙◌, subst}
use mathlib.Core.List.{List}
use mathlib.Core.Bool.{Bool, true, false, not}
use Prim.Native.Nat.{ℕ, ◌≤◌, ◌<◌}
use native.Mathlib.Omega.{arith}
use lib.ListN.{length}
use borrow.Author.Tests.{le-ltb}
use Rattle.records.specs.declared.Record.{Record}
use Rattle.rules.specs.LookUp.{supervisors_of}
use Rattle.places.specs.declared.Places.{Places}
use Rattle.places.specs.Places.{records_by}
use Rattle.checker.specs.Examined.{examined_of}
use Rattle.checker.proofs.Examining.{call_by, refused_call}
use Rattle.plan.specs.Plan.{shown}
use Rattle.messages.specs.Message.{message_bytes, short}
use Rattle.messages.specs.Write.{Wrote}
use Rattle.messages.specs.declared.Message.TheVariants.{Permit}
use Rattle.messages.proofs.Writing.{turned_round, start_fits, put_start, put_short}
use Rattle.permits.specs.Step.{bytes_of_messages, Gave}
use Rattle.permits.specs.Supervisor.{with_noted, with_holder, with_last, supervisor_fits, served, after_send, sent_to, answer_by, state_by, step_refused, step_in, step_by, supervisor_step}
use Rattle.permits.specs.declared.Supervisor.{Supervisor}
use Rattle.permits.specs.declared.SupervisorStepped.{SupervisorStepped}
use Rattle.permits.specs.declared.Holder.TheVariants.{Out}
use Rattle.permits.specs.declared.Served.{Served}
use Rattle.permits.specs.declared.Served.TheVariants.{Sends, Waits}
use Rattle.permits.proofs.Stepping.{bytes_one, gives}
use Rattle.noting.specs.Notes.{put_note}
use Rattle.noting.proofs.Notes.{put_in}
use Rattle.noting.proofs.Planned.{present, lacking}

-- ---- the permit sent

pub after_send_lem : (y : Supervisor) (m : ℕ) {n : ℕ} {r : Supervisor} → m < 16 → n ≡ put_note y.noted m false → r ≡ with_holder (with_last (with_noted y n) m) (Out m) → r ≡ after_send y m
after_send_lem y m l e h = h ∙ ap (λ (n : ℕ). with_holder (with_last (with_noted y n) m) (Out m)) (put_in y.noted m false l e)

refuses : (y : Supervisor) (b : List ℕ) (n o : ℕ) {r : SupervisorStepped} → r ≡ (record { answer = Err (refusal n o); state = y }) → Gave (step_refused y b n o) r.answer r.state b
refuses y b n o e = record { answer = ap (λ (z : SupervisorStepped). z.answer) e; state = ap (λ (z : SupervisorStepped). z.state) e; buffer = refl }

module _ (rs : List Record) (v : ℕ) (y : Supervisor) (b : List ℕ) where
  -- t is what the writer of messages answered
  module _ (m : ℕ) {k : ℕ} {t : Bool} {after : List ℕ} (e : k ≡ shown rs v y.state) (w : Wrote (Permit v m k) 0 b t after) where
    abbrev bytes : List ℕ
    bytes = message_bytes (Permit v m (shown rs v y.state))

    wrote : Wrote (Permit v m (shown rs v y.state)) 0 b t after
    wrote = subst (λ (x : ℕ). Wrote (Permit v m x) 0 b t after) e w

    tested : short bytes b ≡ not t
    tested = turned_round (short bytes b) t (wrote.answer ∙ start_fits bytes b)

    pub sends_by : {l : ℕ} {s : Supervisor} → t ≡ true → s ≡ after_send y m → l ≡ length (message_bytes (Permit v m k)) → Gave (step_in rs v y b (Some m)) (Ok (Sends m l)) s after
    unfolding step_in sent_to answer_by state_by
    sends_by h f g =
        let z : short bytes b ≡ false = tested ∙ ap not h in
        rw (bytes_one (Permit v m (shown rs v y.state)), z)
        (record { answer = ap (λ (n : ℕ). Ok (Sends m n)) (g ∙ ap (λ (x : ℕ). length (message_bytes (Permit v m x))) e); state = f; buffer = wrote.buffer ∙ put_start bytes b z })

    pub short_by : {r : SupervisorStepped} → t ≡ false → r ≡ (record { answer = Err (refusal 15 0); state = y }) → Gave (step_in rs v y b (Some m)) r.answer r.state after
    unfolding step_in sent_to
    short_by {r} h f =
        let z : short bytes b ≡ true = tested ∙ ap not h in
        rw (bytes_one (Permit v m (shown rs v y.state)), z) (subst (Gave (step_refused y b 15 0) r.answer r.state) (sym (wrote.buffer ∙ put_short bytes b z)) (refuses y b 15 0 f))

  -- what follows from the module that is served
  pub waits_by : {o : Option ℕ} → o ≡ served y → o ≡ None → Gave (step_in rs v y b (served y)) (Ok Waits) y b
  unfolding step_in sent_to bytes_of_messages answer_by state_by
  waits_by e f =
      gives (ap (step_in rs v y b) ((sym f) ∙ e)) (simp (le-ltb (length b) 0 (omega arith)) (record { answer = refl; state = refl; buffer = refl }))

  pub serves_by : {o : Option ℕ} {m : ℕ} {a : Result Served Refusal} {s : Supervisor} {after : List ℕ} → o ≡ served y → o ≡ Some m → Gave (step_in rs v y b (Some m)) a s after
      → Gave (step_in rs v y b (served y)) a s after
  serves_by e f g = gives (ap (step_in rs v y b) ((sym f) ∙ e)) g

-- ---- the whole call

module _ (image : List ℕ) (v : ℕ) (y : Supervisor) (b : List ℕ) {d : Result Places Refusal} (e : d ≡ examined_of image) where
  pub step_refused_by : {why : Refusal} {r : SupervisorStepped} → d ≡ Err why → r ≡ (record { answer = Err why; state = y }) → Gave (supervisor_step image v y b) r.answer r.state b
  unfolding step_by
  step_refused_by {why} f h = gives (refused_call image e (λ w rs. step_by w rs v y b) f) (refuses y b why.number why.offset h)

  module _ {p : Places} {k : ℕ} (f : d ≡ Ok p) (c : k ≡ supervisors_of (records_by image p)) where
    abbrev rs : List Record
    rs = records_by image p

    by : step_by (Ok tt) rs v y b ≡ supervisor_step image v y b
    by = call_by image e (λ w rs. step_by w rs v y b) f

    pub step_absent : {r : SupervisorStepped} → k ≤ v → r ≡ (record { answer = Err (refusal 11 0); state = y }) → Gave (supervisor_step image v y b) r.answer r.state b
    unfolding step_by
    step_absent l h = gives by (simp (lacking rs v c l) (refuses y b 11 0 h))

    module _ {t : Bool} (l : v < k) (g : t ≡ supervisor_fits (records_by image p) v y) where
      pub step_unfit : {r : SupervisorStepped} → t ≡ false → r ≡ (record { answer = Err (refusal 9 0); state = y }) → Gave (supervisor_step image v y b) r.answer r.state b
      unfolding step_by
      step_unfit q h = gives by (simp (present rs v c l, sym g ∙ q) (refuses y b 9 0 h))

      pub step_fit : {a : Result Served Refusal} {s : Supervisor} {after : List ℕ} → t ≡ true → Gave (step_in (records_by image p) v y b (served y)) a s after → Gave (supervisor_step image v y b) a s after
      unfolding step_by
      step_fit q h = gives by (simp (present rs v c l, sym g ∙ q) h)
