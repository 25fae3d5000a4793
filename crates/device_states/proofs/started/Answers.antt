use Rattle.device_states.proofs.started.Goals as goal

pub returns : goal.returns
returns c = simp (c.start_states.ensures, c.start_slots.ensures)
