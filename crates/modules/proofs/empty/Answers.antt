use Rattle.modules.proofs.empty.Goals as goal

pub returns : goal.returns
returns c = cc
