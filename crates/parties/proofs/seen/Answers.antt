use Rattle.parties.proofs.seen.Goals as goal

pub returns : goal.returns
returns c = simp (c.states_of.ensures, c.owns_of.ensures)
