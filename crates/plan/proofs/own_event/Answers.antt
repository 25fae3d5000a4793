use Rattle.plan.proofs.own_event.Goals as goal

pub returns : goal.returns
returns c = cc
