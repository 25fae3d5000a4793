use Rattle.simulation.proofs.Reading.{reading_is}
use Rattle.simulation.proofs.litres_of.Goals as goal

pub returns : goal.returns
returns c = search reading_is
