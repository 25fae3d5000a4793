use Rattle.modules.proofs.idle.Goals as goal

pub returns : goal.returns
returns c = cc
