use Rattle.plan.proofs.supervisor_state.Goals as goal

pub returns : goal.returns
returns c = cc
