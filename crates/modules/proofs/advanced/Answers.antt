use Rattle.modules.proofs.Ticks.{advanced_by}
use Rattle.modules.proofs.advanced.Goals as goal

pub returns : goal.returns
returns c = search advanced_by
