use Rattle.paper.proofs.Bodies.{count_wide, count_narrow}
use Rattle.paper.proofs.byte_count.Goals as goal

pub returns-then-size-ge8 : goal.returns-then-size-ge8
returns-then-size-ge8 c = search count_wide

pub returns-else-size-ge8 : goal.returns-else-size-ge8
returns-else-size-ge8 c = search count_narrow
