use Rattle.context_bytes.specs.Encoding.{context_at}
use Rattle.context_bytes.proofs.context_in.Goals as goal

pub returns : goal.returns
unfolding context_at
returns c = cc
