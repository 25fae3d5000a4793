use Rattle.context_bytes.proofs.Reading.{supervisors_read}
use Rattle.context_bytes.proofs.supervisors_in.Goals as goal

pub returns : goal.returns
returns c = search supervisors_read
