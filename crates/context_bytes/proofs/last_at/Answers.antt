use Rattle.context_bytes.specs.Encoding.{key_at}
use Rattle.context_bytes.proofs.last_at.Goals as goal

pub returns : goal.returns
unfolding key_at
returns c = cc
