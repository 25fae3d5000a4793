use Rattle.bits.proofs.Least.{lowest_some, lowest_none}
use Rattle.bits.proofs.lowest.Goals as goal

pub returns-then-e-lt64 : goal.returns-then-e-lt64
returns-then-e-lt64 c = lowest_some 64 _ c.if-e-lt64.true

pub returns-else-e-lt64 : goal.returns-else-e-lt64
returns-else-e-lt64 c = lowest_none 64 _ c.if-e-lt64.false
