use Rattle.frames.proofs.Frame.{part_by}
use Rattle.frames.proofs.message_in.Goals as goal

pub returns : goal.returns
returns c = search part_by
