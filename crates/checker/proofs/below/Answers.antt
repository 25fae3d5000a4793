use Rattle.std.proofs.Common.{arith, pow_pos, rules}
use Rattle.bits.proofs.Laws.{shl_one}
use Rattle.checker.proofs.Stretch.{all_below_lem, ones_below}
use Rattle.checker.proofs.below.Goals as goal

pub overflow_sub-result : goal.overflow_sub-result
overflow_sub-result c = rw (shl_one 64 _ c.if-n-lt64.true) (pow_pos _)

pub returns-then-n-lt64 : goal.returns-then-n-lt64
returns-then-n-lt64 c = ones_below _ _ c.if-n-lt64.true

pub returns-else-n-lt64 : goal.returns-else-n-lt64
returns-else-n-lt64 c = all_below_lem _ _ (search rules) (omega arith)
