use Rattle.judge.specs.Judge.{order_by}
use Rattle.judge.proofs.in_order.Goals as goal

pub returns-then-begun : goal.returns-then-begun
unfolding order_by
returns-then-begun c = simp (c.if-begun.true, c.precedes-after.ensures, c.key_of-q.ensures, c.index_runs-runs.ensures)

pub returns-else-begun : goal.returns-else-begun
unfolding order_by
returns-else-begun c = simp (c.if-begun.false, c.kind_of.ensures)
