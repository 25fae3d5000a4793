use mathlib.Core.Path.{◌∙◌}
use native.Mathlib.Omega.{arith}
use lib.Pow.{pow_pos}
use Rattle.bits.proofs.Laws.{shl_one, below_is, full_is, over_is}
use Rattle.bits.proofs.has_below.Goals as goal

pub overflow_sub-b : goal.overflow_sub-b
overflow_sub-b c = rw (shl_one 64 _ c.if-n-lt64.true) (pow_pos _)

pub returns-then-n-lt64 : goal.returns-then-n-lt64
returns-then-n-lt64 c = c.within.ensures ∙ rw (shl_one 64 _ c.if-n-lt64.true) (below_is _ _ (omega arith))

pub returns-then-n-eq64 : goal.returns-then-n-eq64
returns-then-n-eq64 c = full_is _ c.ranges.m.fits ∙ rw c.if-n-eq64.true

pub returns-else-n-eq64 : goal.returns-else-n-eq64
returns-else-n-eq64 c = over_is _ _ c.ranges.m.fits (omega arith)
