use Rattle.packing.specs.Answer.{length_answer}
use Rattle.packing.proofs.written.Goals as goal

pub returns-in-Ok : goal.returns-in-Ok
unfolding length_answer
returns-in-Ok c = cc

pub returns-in-Err : goal.returns-in-Err
unfolding length_answer
returns-in-Err c = cc
