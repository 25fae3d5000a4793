use Rattle.packing.specs.Answer.{turn_answer}
use Rattle.packing.proofs.turn.Goals as goal

pub returns-in-Some : goal.returns-in-Some
unfolding turn_answer
returns-in-Some c = cc

pub returns-in-None : goal.returns-in-None
unfolding turn_answer
returns-in-None c = cc
