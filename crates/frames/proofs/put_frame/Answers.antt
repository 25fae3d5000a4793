use Rattle.frames.proofs.Frame.{frame_put}
use Rattle.frames.proofs.put_frame.Goals as goal

pub returns : goal.returns
returns c = search frame_put
