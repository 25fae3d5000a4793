use Rattle.own_bytes.specs.Own.{is_own}
use Rattle.own_bytes.proofs.is_own_in.Goals as goal

pub returns : goal.returns
unfolding is_own
returns c = cc
