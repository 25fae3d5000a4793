-- What a refused call leaves of a supervisor.
use Rattle.std.specs.Prelude.{Option, Some, None, Result, Ok, Err, ⊤}
use Rattle.refusal.specs.Refusal.{refusal}
use Rattle.refusal.specs.declared.Refusal.{Refusal}
use Prim.Native.Nat.{ℕ}
use mathlib.Core.Path.{◌≡◌, refl, ap}
use mathlib.Core.List.{List}
use mathlib.Core.Bool.{Bool, true, false, cond, not, ◌&&◌}
use lib.Dec.{eqb, ltb}
use borrow.Author.Tests.{ltb-false}
use Rattle.bits.specs.Bit.{bit}
use Rattle.records.specs.declared.Record.{Record}
use Rattle.reader.specs.Walk.{records_of}
use Rattle.rules.specs.LookUp.{supervisors_of}
use Rattle.rules.specs.Check.{verdict_of}
use Rattle.messages.specs.Message.{short, written, parse}
use Rattle.messages.specs.declared.Message.{Message}
use Rattle.messages.specs.declared.Message.TheVariants.{Bid, Permit, Release}
use Rattle.permits.specs.Names.{named}
use Rattle.permits.specs.Supervisor.{supervisor_fits, served, sent_to, step_bytes, answer_by, state_by, step_refused, step_in, step_by, held_by, taken_by, deliver_in, absent, deliver_by, start_by}
use Rattle.permits.specs.Step.{bytes_of_messages}
use Rattle.permits.specs.Numbers.{served_bytes}
use Rattle.permits.specs.declared.Supervisor.{Supervisor}
use Rattle.permits.specs.declared.SupervisorCalled.{SupervisorCalled}
use Rattle.permits.specs.declared.Served.{Served}
use Rattle.refusals.specs.Table as Table
use Rattle.refusals.specs.Table.{Gives}
use Rattle.refusals.specs.Refusals.{OffsetRight, CheckAnswer, CallAnswer, ServeAnswer, ServeBytes, SupervisorStep, SupervisorCall, Supervisors}
use Rattle.refusals.proofs.Table.{passed}
use Rattle.refusals.proofs.Cases.{either, at_zero, accepts, refuses, taken, same, untouched, put, done, call_refused, takes, turns_down, refused}
use Rattle.refusals.proofs.Checked.{checked}

start : (w : Result ⊤ Refusal) (rs : List Record) (v : ℕ) → CheckAnswer w → CallAnswer Table.start (start_by w rs v).answer
unfolding start_by
start (Ok u) rs v j = either (λ (c : SupervisorCalled). CallAnswer Table.start c.answer) (ltb v (supervisors_of rs)) (done Table.start) (call_refused Table.start 11 0 refl (at_zero 11))
start (Err e) rs v j = call_refused Table.start e.number e.offset (passed Table.check Table.start refl e.number (j.numbered e refl)) j.offset_right

-- the answer of an accepted step
accepted : (bytes : List ℕ) (t : Option ℕ) → ServeAnswer (answer_by bytes t)
unfolding answer_by
accepted bytes None = accepts Table.supervisor_step _
accepted bytes (Some m) = accepts Table.supervisor_step _

serve_bytes : (a : Result Served Refusal) → ServeBytes a
serve_bytes a = record { sends = λ m k e. ap served_bytes e; waiting = λ e. ap served_bytes e }

module _ (rs : List Record) (v : ℕ) (y : Supervisor) where
  -- ---- a step
  module _ (b : List ℕ) where
    step_refused_lem : (n o : ℕ) → Gives Table.supervisor_step n → OffsetRight n o → SupervisorStep y b (step_refused y b n o)
    step_refused_lem n o t p =
        record {
          answer = refuses Table.supervisor_step (refusal n o) t p;
          state = same n y;
          bytes = serve_bytes _;
          buffer = untouched n b;
        }

    step_in_lem : (t : Option ℕ) (q : Bool) → short (step_bytes rs v y t) b ≡ q
        → SupervisorStep y b (cond q (step_refused y b 15 0) (record { answer = answer_by (step_bytes rs v y t) t; state = state_by y t; buffer = written (step_bytes rs v y t) b }))
    unfolding answer_by sent_to bytes_of_messages
    step_in_lem t true e = step_refused_lem 15 0 refl (at_zero 15)
    step_in_lem None false e = record { answer = accepted (step_bytes rs v y None) None; state = taken y _; bytes = serve_bytes _; buffer = put 0 (step_bytes rs v y None) b refl (ltb-false _ _ e) }
    step_in_lem (Some m) false e =
        record { answer = accepted (step_bytes rs v y (Some m)) (Some m); state = taken y _; bytes = serve_bytes _; buffer = put _ (step_bytes rs v y (Some m)) b refl (ltb-false _ _ e) }

    step_by_lem : (w : Result ⊤ Refusal) → CheckAnswer w → SupervisorStep y b (step_by w rs v y b)
    unfolding step_by step_in
    step_by_lem (Ok u) j =
        either (SupervisorStep y b) (ltb v (supervisors_of rs))
        (either (SupervisorStep y b) (supervisor_fits rs v y) (step_in_lem (served y) _ refl) (step_refused_lem 9 0 refl (at_zero 9)))
        (step_refused_lem 11 0 refl (at_zero 11))
    step_by_lem (Err e) j = step_refused_lem e.number e.offset (passed Table.check Table.supervisor_step refl e.number (j.numbered e refl)) j.offset_right

  -- ---- a delivery
  take : (g : Message) → SupervisorCall Table.deliver y (taken_by rs v y g)
  unfolding taken_by
  take (Bid m w) = either (SupervisorCall Table.deliver y) (eqb w v && not (bit y.noted m)) (takes Table.deliver y _) (refused Table.deliver y 12 refl)
  take (Permit w m k) = refused Table.deliver y 12 refl
  take (Release m w e) = either (SupervisorCall Table.deliver y) (eqb w v && held_by y.holder m) (takes Table.deliver y _) (refused Table.deliver y 12 refl)

  deliver_in_lem : (p : Option Message) → SupervisorCall Table.deliver y (deliver_in rs v y p)
  unfolding deliver_in
  deliver_in_lem None = refused Table.deliver y 10 refl
  deliver_in_lem (Some g) = either (SupervisorCall Table.deliver y) (named rs g) (take g) (refused Table.deliver y 11 refl)

  to_absent : (p : Option Message) → SupervisorCall Table.deliver y (absent y p)
  unfolding absent
  to_absent None = refused Table.deliver y 10 refl
  to_absent (Some g) = refused Table.deliver y 11 refl

  deliver_by_lem : (w : Result ⊤ Refusal) (p : Option Message) → CheckAnswer w → SupervisorCall Table.deliver y (deliver_by w rs v y p)
  unfolding deliver_by
  deliver_by_lem (Ok u) p j =
      either (SupervisorCall Table.deliver y) (ltb v (supervisors_of rs)) (either (SupervisorCall Table.deliver y) (supervisor_fits rs v y) (deliver_in_lem p) (refused Table.deliver y 9 refl)) (to_absent p)
  deliver_by_lem (Err e) p j = turns_down Table.deliver y e.number e.offset (passed Table.check Table.deliver refl e.number (j.numbered e refl)) j.offset_right

pub supervisors : Supervisors
supervisors =
    record {
      start = λ s v. start (verdict_of s) (records_of s) v (checked s);
      step = λ s v y b. step_by_lem (records_of s) v y b (verdict_of s) (checked s);
      deliver = λ s v y bytes. deliver_by_lem (records_of s) v y (verdict_of s) (parse bytes) (checked s);
    }
