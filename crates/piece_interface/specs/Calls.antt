-- Document 02, 2.3, over lent bytes: each call is that of crate pieces on the state that the bytes are. The quotations are from include/pewterslug.h.
use Rattle.std.specs.Prelude.{ℕ, List, [], cond, Ok}
use Rattle.pieces.specs.Pieces.{starting, piece_taken, verdict_by}
use Rattle.piece_bytes.specs.State.{is_state, state_at, state_bytes}
use Rattle.packing.specs.Answer.{Answer, refused, done, called_answer, start_answer}

-- "Writes the state before the first piece, PEWTERSLUG_CHECK_BYTES, from the start of the bytes lent. Where they are fewer it is 15."
unfoldable pub check_start_bytes : List ℕ → Answer
check_start_bytes b = start_answer 495 (Ok tt) (state_bytes starting) b

-- "Takes the next piece, of any length, also of 0. Only bytes that stand for no state are refused, with 9"
unfoldable pub check_piece_bytes : List ℕ → List ℕ → Answer
check_piece_bytes s p =
    cond (is_state s) (record { number = done 0 0 0; state = state_bytes (piece_taken (state_at s) p); buffer = [] })
    (record { number = refused 9 0; state = s; buffer = [] })

-- "The answer of pewterslug_check for all pieces taken so far", of the state as it stands; "Bytes that stand for no state are 9."
unfoldable pub check_answer_bytes : List ℕ → ℕ
check_answer_bytes s = cond (is_state s) (called_answer (verdict_by (state_at s))) (refused 9 0)
