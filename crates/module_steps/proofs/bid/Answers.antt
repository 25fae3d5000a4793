use Rattle.module_steps.proofs.Stepping.{bid_made, bid_short}
use Rattle.module_steps.proofs.bid.Goals as goal

pub returns-then-write : goal.returns-then-write
returns-then-write c = search bid_made

pub returns-else-write : goal.returns-else-write
returns-else-write c = search bid_short
