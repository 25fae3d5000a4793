use Rattle.std.proofs.Common.{◌≡◌, ◌-◌, length}
use Rattle.checker.specs.Stretch.{Passed, at_steps}
use Rattle.checker.proofs.steps.Given as goal

abbrev pub invariant-loop-n : goal.invariant-loop-n
invariant-loop-n l = Passed l.image 0x17 (at_steps l.initial.last l.n l.known l.controllable l.owner l.initial.counts) l.from (at_steps l.last l.n l.known l.controllable l.owner l.counts) l.i × (length l.counts ≡ 64)

abbrev pub decreases-loop-n : goal.decreases-loop-n
decreases-loop-n l = length l.image - l.i
