use Rattle.modules.proofs.Ticks.{arrived_by, arrived_idle}
use Rattle.modules.proofs.arrive_at.Goals as goal

pub returns-then-w : goal.returns-then-w
returns-then-w c = search arrived_by

pub returns-else-w : goal.returns-else-w
returns-else-w c = search arrived_idle
