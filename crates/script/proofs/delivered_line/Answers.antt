use Rattle.texts.specs.Ascii.{ascii}
use Rattle.script.specs.SimulationLines.{delivered_line}
use Rattle.script.proofs.delivered_line.Goals as goal

pub returns : goal.returns
unfolding ascii delivered_line
returns c = c.bytes_line.ensures
