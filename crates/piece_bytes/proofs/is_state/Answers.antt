use Rattle.piece_bytes.specs.State.{is_state}
use Rattle.piece_bytes.proofs.is_state.Goals as goal

pub returns : goal.returns
unfolding is_state
returns c = cc
