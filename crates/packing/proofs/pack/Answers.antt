use Rattle.packing.specs.Answer.{packed}
use Rattle.packing.proofs.pack.Goals as goal

pub returns : goal.returns
unfolding packed
returns c = cc
