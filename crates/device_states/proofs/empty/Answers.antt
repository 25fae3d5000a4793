use Rattle.device_states.proofs.empty.Goals as goal

pub returns : goal.returns
returns c = simp c.empty.ensures
