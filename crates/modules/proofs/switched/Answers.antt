use Rattle.modules.proofs.Ticks.{on_by, off_by}
use Rattle.modules.proofs.switched.Goals as goal

pub returns-then-on : goal.returns-then-on
returns-then-on c = search on_by

pub returns-else-on : goal.returns-else-on
returns-else-on c = search off_by
