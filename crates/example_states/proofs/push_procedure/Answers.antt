use Rattle.texts.specs.Ascii.{ascii}
use Rattle.example_states.proofs.Printed.{procedure_by}
use Rattle.example_states.proofs.push_procedure.Goals as goal

pub returns : goal.returns
unfolding ascii
returns c = search procedure_by
