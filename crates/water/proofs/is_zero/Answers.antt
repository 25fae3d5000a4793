use Rattle.water.proofs.is_zero.Goals as goal

pub returns : goal.returns
returns c = cc
