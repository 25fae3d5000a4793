use Rattle.device.proofs.turn_by.Goals as goal

pub returns : goal.returns
returns c = simp (c.turn.ensures, c.shown_by-k.ensures, c.supervisors_of-n.ensures)
