use Rattle.piece_bytes.proofs.Reading.{state_padded}
use Rattle.piece_bytes.proofs.state_short.Goals as goal

pub returns : goal.returns
returns c = search state_padded
