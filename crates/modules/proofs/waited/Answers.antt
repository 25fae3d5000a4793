use Rattle.modules.proofs.Ticks.{wait_goes, wait_ends}
use Rattle.modules.proofs.waited.Goals as goal

pub returns-then-n-x : goal.returns-then-n-x
returns-then-n-x c = search wait_goes

pub returns-else-n-x : goal.returns-else-n-x
returns-else-n-x c = search wait_ends
