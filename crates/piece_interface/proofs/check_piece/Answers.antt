use Rattle.piece_interface.proofs.Laws.{piece_taken_lem, piece_none}
use Rattle.piece_interface.proofs.check_piece.Goals as goal

pub returns-then-take : goal.returns-then-take
returns-then-take c = search piece_taken_lem

pub returns : goal.returns
returns c = search piece_none
