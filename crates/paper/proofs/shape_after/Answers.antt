use Rattle.paper.proofs.Walked.{again_by}
use Rattle.paper.proofs.shape_after.Goals as goal

pub returns-then-size-image : goal.returns-then-size-image
returns-then-size-image c = search again_by
