-- The calls over lent bytes, from what the code is told.
use Rattle.std.specs.Prelude.{Ok, Err}
use Rattle.refusal.specs.Refusal.{refused_number}
use Rattle.refusal.specs.declared.Refusal.{Refusal}
use mathlib.Core.Path.{◌≡◌, refl, ap, ap₂, ◌∙◌, subst}
use mathlib.Core.List.{List, []}
use mathlib.Core.Bool.{Bool, true, false}
use Prim.Native.Nat.{ℕ, ◌≤◌, ◌<◌}
use native.Mathlib.Omega.{arith}
use lib.ListN.{length}
use lib.Dec.{eqb}
use borrow.Author.Tests.{lt-ltb, le-ltb}
use Rattle.messages.specs.Message.{put_at, short}
use Rattle.messages.proofs.Writing.{put_start}
use Rattle.permits.specs.Supervisor.{ServeCall, supervisor_start, supervisor_step, supervisor_deliver}
use Rattle.permits.specs.declared.Supervisor.{Supervisor}
use Rattle.permits.specs.declared.SupervisorCalled.{SupervisorCalled}
use Rattle.permits.specs.declared.SupervisorStepped.{SupervisorStepped}
use Rattle.permits.specs.Step.{Gave}
use Rattle.party_bytes.specs.Supervisor.{supervisor_size, supervisor_bytes, supervisor_of}
use Rattle.party_bytes.proofs.Laws.{length_supervisor}
use Rattle.packing.specs.Answer.{Answered, packed, called_answer, served_answer, start_answer}
use Rattle.packing.proofs.Accepted.{after_yes, after_no}
use Rattle.supervisor_interface.specs.Calls.{called_on, stepped_on, start_bytes, step_bytes, deliver_bytes}

module _ (c : SupervisorCalled) (s : List ℕ) {t : Bool} {r : ℕ} where
  pub keep_yes : {after : List ℕ} → t ≡ eqb (refused_number c.answer) 0 → t ≡ true → after ≡ put_at (supervisor_bytes c.state) 0 s → r ≡ called_answer c.answer → Answered (called_on c s) r after []
  keep_yes e h w z = record { answer = z; state = w ∙ after_yes (refused_number c.answer) (put_at (supervisor_bytes c.state) 0 s) s e h; buffer = refl }

  pub keep_no : t ≡ eqb (refused_number c.answer) 0 → t ≡ false → r ≡ called_answer c.answer → Answered (called_on c s) r s []
  keep_no e h z = record { answer = z; state = after_no (refused_number c.answer) (put_at (supervisor_bytes c.state) 0 s) s e h; buffer = refl }

module _ (c : SupervisorStepped) (s : List ℕ) {t : Bool} {r : ℕ} where
  pub keep_step_yes : {after : List ℕ} → t ≡ eqb (refused_number c.answer) 0 → t ≡ true → after ≡ put_at (supervisor_bytes c.state) 0 s → r ≡ served_answer c.answer → Answered (stepped_on c.answer c.state s []) r after []
  keep_step_yes e h w z = record { answer = z; state = w ∙ after_yes (refused_number c.answer) (put_at (supervisor_bytes c.state) 0 s) s e h; buffer = refl }

  pub keep_step_no : t ≡ eqb (refused_number c.answer) 0 → t ≡ false → r ≡ served_answer c.answer → Answered (stepped_on c.answer c.state s []) r s []
  keep_step_no e h z = record { answer = z; state = after_no (refused_number c.answer) (put_at (supervisor_bytes c.state) 0 s) s e h; buffer = refl }

-- ---- a start

module _ (c : SupervisorCalled) (b : List ℕ) {r : ℕ} where
  pub give_short : c.answer ≡ Ok tt → length b < supervisor_size → r ≡ packed 15 0 0 0 → Answered (start_answer supervisor_size c.answer (supervisor_bytes c.state) b) r [] b
  unfolding start_answer
  give_short e h w = rw e (simp (lt-ltb (length b) supervisor_size h) (record { answer = w; state = refl; buffer = refl }))

  pub give_done : {after : List ℕ} → c.answer ≡ Ok tt → supervisor_size ≤ length b → after ≡ put_at (supervisor_bytes c.state) 0 b → r ≡ packed 0 0 0 supervisor_size
      → Answered (start_answer supervisor_size c.answer (supervisor_bytes c.state) b) r [] after
  unfolding start_answer
  give_done e h w z =
      let fit : short (supervisor_bytes c.state) b ≡ false = le-ltb (length b) (length (supervisor_bytes c.state)) (omega (arith, length_supervisor c.state)) in
      rw e (simp (le-ltb (length b) supervisor_size h) (record { answer = z; state = refl; buffer = w ∙ put_start (supervisor_bytes c.state) b fit }))

  pub give_refused : {e : Refusal} → c.answer ≡ Err e → r ≡ packed e.number 0 0 e.offset → Answered (start_answer supervisor_size c.answer (supervisor_bytes c.state) b) r [] b
  unfolding start_answer
  give_refused e w = rw e (record { answer = w; state = refl; buffer = refl })

module _ (image : List ℕ) (m : ℕ) {r : ℕ} {after : List ℕ} where
  pub start_by : (b : List ℕ) {c : SupervisorCalled} → c ≡ supervisor_start image m → Answered (start_answer supervisor_size c.answer (supervisor_bytes c.state) b) r [] after → Answered (start_bytes image m b) r [] after
  unfolding start_bytes
  start_by b e a = subst (λ (c : SupervisorCalled). Answered (start_answer supervisor_size c.answer (supervisor_bytes c.state) b) r [] after) e a

  -- ---- calls on a state
  module _ (s : List ℕ) {x : Supervisor} (w : x ≡ supervisor_of s) where
    pub step_by_lem : (b : List ℕ) {c : SupervisorStepped} {lent : List ℕ} → Gave (supervisor_step image m x b) c.answer c.state lent → Answered (stepped_on c.answer c.state s []) r after [] → Answered (step_bytes image s m b) r after lent
    unfolding step_bytes
    step_by_lem b {c} {lent} g a =
        let call : ServeCall = supervisor_step image m (supervisor_of s) b in
        let is : supervisor_step image m x b ≡ call = ap (λ (y : Supervisor). supervisor_step image m y b) w in
        let one : c.answer ≡ call.answer = g.answer ∙ ap (λ (y : ServeCall). y.answer) is in
        let two : c.state ≡ call.state = g.state ∙ ap (λ (y : ServeCall). y.state) is in
        record {
          answer = a.answer ∙ ap served_answer one;
          state = a.state ∙ ap₂ (λ p q. (stepped_on p q s []).state) one two;
          buffer = g.buffer ∙ ap (λ (y : ServeCall). y.buffer) is;
        }

    module _ {c : SupervisorCalled} (a : Answered (called_on c s) r after []) where
      pub deliver_by_lem : (g : List ℕ) → c ≡ supervisor_deliver image m x g → Answered (deliver_bytes image s m g) r after []
      unfolding deliver_bytes
      deliver_by_lem g e = subst (λ (y : SupervisorCalled). Answered (called_on y s) r after []) (e ∙ ap (λ (y : Supervisor). supervisor_deliver image m y g) w) a
