use Rattle.supervisor_interface.proofs.Laws.{step_by_lem}
use Rattle.supervisor_interface.proofs.step.Goals as goal

pub returns : goal.returns
returns c = search step_by_lem
