use Rattle.piece_bytes.proofs.Reading.{state_read}
use Rattle.piece_bytes.proofs.state_in.Goals as goal

pub returns : goal.returns
returns c = search state_read
