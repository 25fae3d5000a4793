use Rattle.paper.proofs.Bodies.{taken_by}
use Rattle.paper.proofs.fields_at.Goals as goal

pub returns : goal.returns
returns c = search taken_by
