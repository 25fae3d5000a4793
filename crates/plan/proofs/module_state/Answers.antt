use Rattle.plan.proofs.module_state.Goals as goal

pub returns : goal.returns
returns c = cc
