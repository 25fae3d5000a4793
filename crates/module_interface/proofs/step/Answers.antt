use Rattle.module_interface.proofs.Laws.{step_by_lem}
use Rattle.module_interface.proofs.step.Goals as goal

pub returns : goal.returns
returns c = search step_by_lem
