-- The check in pieces over the bytes of its state: document 02, 2.3: "each handed over once and in order, with the state that the last call left".
-- Every state from the starting one on can be encoded, so that what is kept between two calls may be its bytes.
use Rattle.std.specs.Prelude.{ℕ, ◌≡◌, List, [], ◌∷◌}
use Rattle.roundtrip.specs.Fits.{Bytes}
use Rattle.rules.specs.Check.{verdict_of}
use Rattle.pieces.specs.Pieces.{starting, piece_taken, pieces_taken, verdict_by, joined}
use Rattle.pieces.specs.declared.CheckState.{CheckState}
use Rattle.piece_bytes.specs.State.{state_bytes, state_at, StateEncodable}

pub record StaysEncodable : Type 0 where
  -- the starting state can be encoded, and so can the state after a piece of bytes, from any state that can
  pub start : StateEncodable starting
  pub piece : (k : CheckState) (p : List ℕ) → StateEncodable k → Bytes p → StateEncodable (piece_taken k p)

-- pieces handed over one after another, each call given the bytes that the last one left
unfoldable pub bytes_taken : List ℕ → List (List ℕ) → List ℕ
bytes_taken b [] = b
bytes_taken b (p ∷ ps) = bytes_taken (state_bytes (piece_taken (state_at b) p)) ps

-- every piece is a list of bytes
abbrev pub AllBytes : List (List ℕ) → Type 0
AllBytes [] = Unit {0}
AllBytes (p ∷ ps) = Bytes p × AllBytes ps

-- the bytes are those of the states, and "From its starting state, the answer after the last piece is that for the whole image."
pub record PiecesOverBytes : Type 0 where
  pub same : (ps : List (List ℕ)) → AllBytes ps → bytes_taken (state_bytes starting) ps ≡ state_bytes (pieces_taken starting ps)
  pub answer : (ps : List (List ℕ)) → AllBytes ps → verdict_by (state_at (bytes_taken (state_bytes starting) ps)) ≡ verdict_of (joined ps)
