-- Document 02, 2.3, where the state stands in lent bytes: what they are after a piece.
use Rattle.std.specs.Prelude.{ℕ, List, cond}
use Rattle.pieces.specs.Pieces.{piece_taken}
use Rattle.piece_bytes.specs.State.{is_state, state_at, state_bytes}

-- the bytes after a piece: those of the state after it, as `check_piece_bytes` of piece_interface/specs/Calls leaves them; bytes that stand for no state stay
unfoldable pub piece_taken_in : List ℕ → List ℕ → List ℕ
piece_taken_in b p = cond (is_state b) (state_bytes (piece_taken (state_at b) p)) b
