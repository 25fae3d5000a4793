use Rattle.texts.proofs.Texts.{spaced_by}
use Rattle.texts.proofs.push_spaced.Goals as goal

pub returns : goal.returns
returns c = search spaced_by
