use Rattle.simulation.proofs.Playing.{ticked_by}
use Rattle.simulation.proofs.tick.Goals as goal

pub returns : goal.returns
returns c = search ticked_by
