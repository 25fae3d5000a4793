use Rattle.context_bytes.proofs.Writing.{supervisors_put, length_supervisors}
use Rattle.context_bytes.proofs.put_supervisors.Goals as goal

pub returns : goal.returns
returns c = (search supervisors_put, search length_supervisors)
