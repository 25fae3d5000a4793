use Rattle.context.proofs.steps_of.Goals as goal

pub returns : goal.returns
returns c = cc
