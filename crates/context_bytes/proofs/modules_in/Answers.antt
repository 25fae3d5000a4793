use Rattle.context_bytes.specs.Encoding.{modules_at}
use Rattle.context_bytes.proofs.modules_in.Goals as goal

pub returns : goal.returns
unfolding modules_at
returns c = cc
