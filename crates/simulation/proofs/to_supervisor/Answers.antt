use Rattle.simulation.proofs.Playing.{to_supervisor_by}
use Rattle.simulation.proofs.to_supervisor.Goals as goal

pub returns : goal.returns
returns c = search to_supervisor_by
