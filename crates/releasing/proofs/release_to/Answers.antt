use Rattle.releasing.proofs.Releasing.{released_by}
use Rattle.releasing.proofs.release_to.Goals as goal

pub returns : goal.returns
returns c = search released_by
