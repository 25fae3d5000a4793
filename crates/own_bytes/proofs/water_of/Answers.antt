use Rattle.own_bytes.proofs.water_of.Goals as goal

pub returns : goal.returns
returns c = cc
