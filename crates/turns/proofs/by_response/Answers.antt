use Rattle.turns.proofs.Turns.{no_move, responded}
use Rattle.turns.proofs.by_response.Goals as goal

pub returns-in_default : goal.returns-in_default
returns-in_default c = search no_move

pub returns : goal.returns
returns c = search responded
