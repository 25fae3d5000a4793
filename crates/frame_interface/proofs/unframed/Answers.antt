use Rattle.frame_interface.specs.Frames.{unframed_answer}
use Rattle.frame_interface.proofs.unframed.Goals as goal

pub returns-in-Ok : goal.returns-in-Ok
unfolding unframed_answer
returns-in-Ok c = cc

pub returns-in-Err : goal.returns-in-Err
unfolding unframed_answer
returns-in-Err c = cc
