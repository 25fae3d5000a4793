use Rattle.std.proofs.Common.{◌-◌, length}
use Rattle.checker.specs.Stretch.{Reached}
use Rattle.checker.proofs.judged.Given as goal

abbrev pub invariant-loop-why : goal.invariant-loop-why
invariant-loop-why l = Reached l.image l.c l.i l.p

abbrev pub decreases-loop-why : goal.decreases-loop-why
decreases-loop-why l = length l.image - l.i
