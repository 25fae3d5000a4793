use Rattle.modules.proofs.Queue.{cell_before, cell_after}
use Rattle.modules.proofs.cell_without.Goals as goal

pub returns-then-i-k : goal.returns-then-i-k
returns-then-i-k c = search cell_before

pub returns-else-i-k : goal.returns-else-i-k
returns-else-i-k c = search cell_after
