use Rattle.permits.proofs.are_neighbours.Goals as goal

pub returns : goal.returns
returns c = cc
