use Rattle.packing.specs.Answer.{called_answer}
use Rattle.packing.proofs.called.Goals as goal

pub returns-in-Ok : goal.returns-in-Ok
unfolding called_answer
returns-in-Ok c = cc

pub returns-in-Err : goal.returns-in-Err
unfolding called_answer
returns-in-Err c = cc
