use Rattle.pieces.proofs.Bytes.{put_by, put_out}
use Rattle.pieces.proofs.put_cut.Goals as goal

pub returns-then-held-lt12 : goal.returns-then-held-lt12
returns-then-held-lt12 c = search put_by

pub returns-else-held-lt12 : goal.returns-else-held-lt12
returns-else-held-lt12 c = search put_out
