-- The calls over lent bytes, from what the code is told.
use Rattle.std.specs.Prelude.{Result, ⊤}
use Rattle.refusal.specs.declared.Refusal.{Refusal}
use mathlib.Core.Path.{◌≡◌, refl, sym, ap, ◌∙◌}
use mathlib.Core.List.{List, []}
use mathlib.Core.Bool.{Bool, true, false}
use Prim.Native.Nat.{ℕ, ◌≤◌, ◌<◌}
use native.Mathlib.Omega.{arith}
use lib.ListN.{length}
use borrow.Author.Tests.{lt-ltb, le-ltb}
use Rattle.messages.specs.Message.{put_at, written, short}
use Rattle.messages.proofs.Writing.{put_start}
use Rattle.pieces.specs.Pieces.{starting, verdict_by}
use Rattle.pieces.specs.declared.CheckState.{CheckState}
use Rattle.piece_bytes.specs.State.{is_state, state_at, state_bytes}
use Rattle.piece_bytes.proofs.Parts.{parts as state-parts}
use Rattle.piece_laws.proofs.Encodable.{stays_encodable}
use Rattle.taking.specs.Taken.{piece_taken_in}
use Rattle.packing.specs.Answer.{Answered, packed, called_answer, start_answer}
use Rattle.piece_interface.specs.Calls.{check_start_bytes, check_piece_bytes, check_answer_bytes}

-- ---- the start

module _ (b : List ℕ) {r : ℕ} where
  pub start_short : length b < 495 → r ≡ packed 15 0 0 0 → Answered (check_start_bytes b) r [] b
  unfolding check_start_bytes start_answer
  start_short h w = simp (lt-ltb (length b) 495 h) (record { answer = w; state = refl; buffer = refl })

  pub start_done : {k : CheckState} {after : List ℕ} → 495 ≤ length b → k ≡ starting → after ≡ put_at (state_bytes k) 0 b → r ≡ packed 0 0 0 495
      → Answered (check_start_bytes b) r [] after
  unfolding check_start_bytes start_answer
  start_done {k} h e w z =
      let n : length (state_bytes k) ≡ 495 = ap (λ (x : CheckState). length (state_bytes x)) e ∙ state-parts.size starting stays_encodable.start in
      let fit : short (state_bytes k) b ≡ false = le-ltb (length b) (length (state_bytes k)) (omega (arith, n)) in
      simp (le-ltb (length b) 495 h)
      (record { answer = z; state = refl; buffer = w ∙ put_start (state_bytes k) b fit ∙ ap (λ (x : CheckState). written (state_bytes x) b) e })

-- ---- a piece

module _ (s p : List ℕ) {t : Bool} {after : List ℕ} (e : (t ≡ is_state s) × (after ≡ piece_taken_in s p)) {r : ℕ} where
  pub piece_taken_lem : t ≡ true → r ≡ packed 0 0 0 0 → Answered (check_piece_bytes s p) r after []
  unfolding check_piece_bytes piece_taken_in
  piece_taken_lem h w = let is : is_state s ≡ true = sym e.0 ∙ h in simp is (record { answer = w; state = e.1 ∙ simp is; buffer = refl })

  pub piece_none : t ≡ false → r ≡ packed 9 0 0 0 → Answered (check_piece_bytes s p) r after []
  unfolding check_piece_bytes piece_taken_in
  piece_none h w = let is : is_state s ≡ false = sym e.0 ∙ h in simp is (record { answer = w; state = e.1 ∙ simp is; buffer = refl })

-- ---- the answer

module _ (s : List ℕ) {t : Bool} (e : t ≡ is_state s) {r : ℕ} where
  pub answer_given : {k : CheckState} {v : Result ⊤ Refusal} → t ≡ true → k ≡ state_at s → v ≡ verdict_by k → r ≡ called_answer v → r ≡ check_answer_bytes s
  unfolding check_answer_bytes
  answer_given h a b w = simp (sym e ∙ h) (w ∙ ap called_answer (b ∙ ap verdict_by a))

  pub answer_none : t ≡ false → r ≡ packed 9 0 0 0 → r ≡ check_answer_bytes s
  unfolding check_answer_bytes
  answer_none h w = simp (sym e ∙ h) w
