use Rattle.std.proofs.Common.{◌≡◌, ◌-◌, length}
use Rattle.checker.specs.Stretch.{Passed, at_modules}
use Rattle.checker.proofs.modules.Given as goal

abbrev pub invariant-loop-n : goal.invariant-loop-n
invariant-loop-n l = Passed l.image 0x12 (at_modules l.initial.last l.n l.known l.initial.states) l.from (at_modules l.last l.n l.declared l.states) l.i × (length l.states ≡ 16)

abbrev pub decreases-loop-n : goal.decreases-loop-n
decreases-loop-n l = length l.image - l.i
