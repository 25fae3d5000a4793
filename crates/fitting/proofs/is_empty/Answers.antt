use Rattle.fitting.proofs.Parts.{empty_by}
use Rattle.fitting.proofs.is_empty.Goals as goal

pub returns : goal.returns
returns c = search empty_by
