use Rattle.context.proofs.module_states.Goals as goal

pub returns : goal.returns
returns c = cc
