use Rattle.plan_interface.proofs.check.Goals as goal

pub returns : goal.returns
returns c = cc
