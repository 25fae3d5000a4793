use Rattle.texts.specs.Ascii.{ascii}
use Rattle.script.specs.SimulationLines.{sent_line}
use Rattle.script.proofs.sent_line.Goals as goal

pub returns : goal.returns
unfolding ascii sent_line
returns c = c.bytes_line.ensures
