use Rattle.frames.specs.Frame.{is_frame}
use Rattle.frames.proofs.is_frame.Goals as goal

pub returns : goal.returns
unfolding is_frame
returns c = cc
