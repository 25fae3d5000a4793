use Rattle.frame_interface.proofs.Laws.{written_by}
use Rattle.frame_interface.proofs.write_frame.Goals as goal

pub returns : goal.returns
returns c = search written_by
