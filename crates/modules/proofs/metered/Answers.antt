use Rattle.modules.proofs.Ticks.{pour_none, pour_ends, pour_goes}
use Rattle.modules.proofs.metered.Goals as goal

pub returns-then-reached : goal.returns-then-reached
returns-then-reached c = search pour_ends

pub returns-else-reached : goal.returns-else-reached
returns-else-reached c = search pour_goes

pub returns-else-running : goal.returns-else-running
returns-else-running c = search pour_none
