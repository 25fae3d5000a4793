use Rattle.supervisor_interface.proofs.Laws.{start_by}
use Rattle.supervisor_interface.proofs.start.Goals as goal

pub returns : goal.returns
returns c = search start_by
