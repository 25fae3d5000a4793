use Rattle.context.proofs.supervisor_states.Goals as goal

pub returns : goal.returns
returns c = cc
