use Rattle.own_bytes.specs.Own.{own_of}
use Rattle.own_bytes.proofs.own_in.Goals as goal

pub returns : goal.returns
unfolding own_of
returns c = cc
