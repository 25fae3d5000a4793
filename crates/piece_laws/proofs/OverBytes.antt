-- The check over the bytes that each call leaves is the check over the states.
use mathlib.Core.Path.{◌≡◌, refl, ap, ◌∙◌}
use mathlib.Core.List.{List, [], ◌∷◌}
use Prim.Native.Nat.{ℕ}
use Rattle.pieces.specs.declared.CheckState.{CheckState}
use Rattle.pieces.specs.Pieces.{starting, piece_taken, pieces_taken, verdict_by}
use Rattle.pieces.proofs.Cut.{cut_anywhere}
use Rattle.piece_bytes.specs.State.{state_bytes, state_at, StateEncodable}
use Rattle.piece_bytes.proofs.Parts.{parts}
use Rattle.piece_laws.specs.Laws.{bytes_taken, AllBytes, PiecesOverBytes}
use Rattle.piece_laws.proofs.Encodable.{piece_encodable, stays_encodable}

pieces_encodable : (k : CheckState) (ps : List (List ℕ)) → StateEncodable k → AllBytes ps → StateEncodable (pieces_taken k ps)
unfolding pieces_taken
pieces_encodable k [] h a = h
pieces_encodable k (p ∷ ps) h a = pieces_encodable (piece_taken k p) ps (piece_encodable k p h a.0) a.1

over : (k : CheckState) (ps : List (List ℕ)) → StateEncodable k → AllBytes ps → bytes_taken (state_bytes k) ps ≡ state_bytes (pieces_taken k ps)
unfolding bytes_taken pieces_taken
over k [] h a = refl
over k (p ∷ ps) h a =
    ap (λ (x : CheckState). bytes_taken (state_bytes (piece_taken x p)) ps) (parts.back k h)
    ∙ over (piece_taken k p) ps (piece_encodable k p h a.0) a.1

pub over_bytes : PiecesOverBytes
over_bytes =
    record {
      same = same;
      answer = λ ps a.
          ap (λ (b : List ℕ). verdict_by (state_at b)) (same ps a)
          ∙ ap verdict_by (parts.back (pieces_taken starting ps) (pieces_encodable starting ps stays_encodable.start a)) ∙ cut_anywhere ps;
    }
  where
    same : (ps : List (List ℕ)) → AllBytes ps → bytes_taken (state_bytes starting) ps ≡ state_bytes (pieces_taken starting ps)
    same ps a = over starting ps stays_encodable.start a
