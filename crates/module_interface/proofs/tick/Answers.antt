use Rattle.module_interface.proofs.Laws.{tick_by}
use Rattle.module_interface.proofs.tick.Goals as goal

pub returns : goal.returns
returns c = search tick_by
