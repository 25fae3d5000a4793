use Rattle.masks.proofs.Events.{neighbour_is}
use Rattle.permits.proofs.is_neighbour.Goals as goal

pub returns : goal.returns
returns c = search neighbour_is
