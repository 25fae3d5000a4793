use Rattle.context_bytes.specs.Encoding.{events_at}
use Rattle.context_bytes.proofs.events_in.Goals as goal

pub returns : goal.returns
unfolding events_at
returns c = cc
