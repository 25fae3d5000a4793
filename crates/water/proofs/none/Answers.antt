use Rattle.water.proofs.Laws.{zero_is}
use Rattle.water.proofs.none.Goals as goal

pub returns : goal.returns
returns c = rw zero_is
