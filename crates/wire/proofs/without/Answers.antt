use Rattle.wire.proofs.Laws.{without_one, without_none}
use Rattle.wire.proofs.without.Goals as goal

pub returns-then-k-count : goal.returns-then-k-count
returns-then-k-count c = search without_one

pub returns-else-k-count : goal.returns-else-k-count
returns-else-k-count c = search without_none
