use Rattle.module_interface.proofs.Laws.{deliver_by_lem}
use Rattle.module_interface.proofs.deliver.Goals as goal

pub returns : goal.returns
returns c = search deliver_by_lem
