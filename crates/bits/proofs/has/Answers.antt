use mathlib.Core.Path.{refl, sym}
use Rattle.bits.specs.Bit.{bit}
use Rattle.bits.proofs.Laws.{bit_above}
use Rattle.bits.proofs.has.Goals as goal

pub returns-then-e-lt64 : goal.returns-then-e-lt64
unfolding bit
returns-then-e-lt64 c = refl

pub returns-else-e-lt64 : goal.returns-else-e-lt64
returns-else-e-lt64 c = sym (bit_above 64 c.args.m c.args.e c.ranges.m.fits c.if-e-lt64.false)
