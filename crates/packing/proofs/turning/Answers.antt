use Rattle.packing.specs.Answer.{turning_answer}
use Rattle.packing.proofs.turning.Goals as goal

pub returns-in-Ok : goal.returns-in-Ok
unfolding turning_answer
returns-in-Ok c = cc

pub returns-in-Err : goal.returns-in-Err
unfolding turning_answer
returns-in-Err c = cc
