use Rattle.texts.specs.Ascii.{ascii}
use Rattle.script.proofs.states_line.Goals as goal

pub returns : goal.returns
unfolding ascii
returns c = c.states_row.ensures
