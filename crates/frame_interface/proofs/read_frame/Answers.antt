use Rattle.frame_interface.proofs.Laws.{read_by_lem}
use Rattle.frame_interface.proofs.read_frame.Goals as goal

pub returns : goal.returns
returns c = search read_by_lem
