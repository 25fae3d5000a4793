use Rattle.plan.proofs.own_uncontrollable.Goals as goal

pub returns : goal.returns
returns c = cc
