use Rattle.simulation.proofs.Playing.{to_module_by}
use Rattle.simulation.proofs.to_module.Goals as goal

pub returns : goal.returns
returns c = search to_module_by
