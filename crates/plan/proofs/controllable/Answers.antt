use Rattle.plan.proofs.controllable.Goals as goal

pub returns : goal.returns
returns c = cc
