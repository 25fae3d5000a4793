use Rattle.context.proofs.owner_of.Goals as goal

pub returns : goal.returns
returns c = cc
