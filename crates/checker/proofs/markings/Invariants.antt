use Rattle.std.proofs.Common.{◌-◌, length}
use Rattle.checker.specs.Stretch.{Passed, at_modules}
use Rattle.checker.proofs.markings.Given as goal

abbrev pub invariant-loop-n : goal.invariant-loop-n
invariant-loop-n l = Passed l.image 0x18 (at_modules l.initial.last l.n l.known l.states) l.from (at_modules l.last l.n l.known l.states) l.i

abbrev pub decreases-loop-n : goal.decreases-loop-n
decreases-loop-n l = length l.image - l.i
