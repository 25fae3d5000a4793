use Rattle.simulation.proofs.Playing.{responded_by}
use Rattle.simulation.proofs.response.Goals as goal

pub returns : goal.returns
returns c = search responded_by
