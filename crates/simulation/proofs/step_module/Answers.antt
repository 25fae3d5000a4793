use Rattle.simulation.proofs.Playing.{module_stepped_lem}
use Rattle.simulation.proofs.step_module.Goals as goal

pub returns : goal.returns
returns c = search module_stepped_lem
