use Rattle.module_interface.proofs.Laws.{start_by}
use Rattle.module_interface.proofs.start.Goals as goal

pub returns : goal.returns
returns c = search start_by
