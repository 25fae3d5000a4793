-- Document 02, 2.3, of the calls over bytes: "Let the check take the image in pieces, cut anywhere, each handed over once and in order, with the state
-- that the last call left and at most 4,096 bytes kept between them. From its starting state, the answer after the last piece is that for the whole
-- image."
use Rattle.std.specs.Prelude.{ℕ, ◌≤◌, ◌≡◌, List, [], ◌∷◌, true, length, take}
use Rattle.pieces.specs.Pieces.{verdict_by, joined}
use Rattle.piece_bytes.specs.State.{is_state, state_at}
use Rattle.piece_laws.specs.Laws.{AllBytes}
use Rattle.refusals.specs.Refusals.{CheckAnswer}
use Rattle.packing.specs.Answer.{Answer, done}
use Rattle.plan_interface.specs.Records.{check_answer}
use Rattle.piece_interface.specs.Calls.{check_start_bytes, check_piece_bytes, check_answer_bytes}
use Rattle.interface_laws.specs.Run.{Given}

-- the state that check_start leaves, of whatever bytes are lent; the header: "The other two calls are given these bytes and no more."
unfoldable pub check_started : List ℕ → List ℕ
check_started l = take 495 (check_start_bytes l).buffer

-- check_piece with each piece, on the bytes that the last call left
unfoldable pub check_run : List ℕ → List (List ℕ) → Given (List ℕ)
check_run s [] = record { answers = []; memory = s }
check_run s (p ∷ ps) =
    let a = check_piece_bytes s p in let r = check_run a.state ps in record { answers = a ∷ r.answers; memory = r.memory }

-- each call is accepted, with the value 0 and the length 0
abbrev pub AllTaken : List Answer → Type 0
AllTaken [] = Unit {0}
AllTaken (a ∷ l) = (a.number ≡ done 0 0 0) × AllTaken l

-- the bytes l lent to check_start, and then the pieces
pub record Cut (l : List ℕ) (ps : List (List ℕ)) : Type 0 where
  pub started : (check_start_bytes l).number ≡ done 0 0 495
  pub taken : AllTaken (check_run (check_started l) ps).answers
  -- "at most 4,096 bytes kept between them"
  pub kept : length (check_run (check_started l) ps).memory ≡ 495
  -- "the answer after the last piece is that for the whole image": that of pewterslug_check
  pub answer : check_answer_bytes (check_run (check_started l) ps).memory ≡ check_answer (joined ps)

-- of every list of pieces, also of none and of empty ones
abbrev pub CutBytes : Type 0
CutBytes = (l : List ℕ) (ps : List (List ℕ)) → 495 ≤ length l → AllBytes ps → Cut l ps

-- The answer for a state that no call has left, too, has a number of the check, and the offset 0 where that number is 1.
abbrev pub AnyAnswer : Type 0
AnyAnswer = (s : List ℕ) → is_state s ≡ true → CheckAnswer (verdict_by (state_at s))
