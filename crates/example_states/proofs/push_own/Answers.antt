use Rattle.texts.specs.Ascii.{ascii}
use Rattle.example_states.proofs.Printed.{own_by}
use Rattle.example_states.proofs.push_own.Goals as goal

pub returns : goal.returns
unfolding ascii
returns c = search own_by
