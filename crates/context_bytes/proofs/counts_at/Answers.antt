use Rattle.context_bytes.specs.Encoding.{counts_at}
use Rattle.context_bytes.proofs.counts_at.Goals as goal

pub returns : goal.returns
unfolding counts_at
returns c = cc
