use Rattle.own_bytes.specs.Own.{procedure_of}
use Rattle.own_bytes.proofs.procedure_of.Goals as goal

pub returns : goal.returns
unfolding procedure_of
returns c = cc
