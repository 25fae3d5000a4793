use Rattle.records.specs.Key.{same_key}
use Rattle.records.proofs.same_key.Goals as goal

pub returns : goal.returns
unfolding same_key
returns c = cc
