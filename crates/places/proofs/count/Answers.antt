use Rattle.places.proofs.Counting.{counts}
use Rattle.places.proofs.count.Goals as goal

pub returns : goal.returns
returns c = search counts
