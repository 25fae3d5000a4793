use Rattle.piece_interface.proofs.Laws.{start_short, start_done}
use Rattle.piece_interface.proofs.check_start.Goals as goal

pub returns-then-state-lt-SIZE : goal.returns-then-state-lt-SIZE
returns-then-state-lt-SIZE c = search start_short

pub returns : goal.returns
returns c = search start_done
