use Rattle.simulation.proofs.Playing.{supervisor_stepped_lem}
use Rattle.simulation.proofs.step_supervisor.Goals as goal

pub returns : goal.returns
returns c = search supervisor_stepped_lem
