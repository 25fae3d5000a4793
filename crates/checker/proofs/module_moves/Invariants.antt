use Rattle.std.proofs.Common.{◌-◌, length}
use Rattle.checker.specs.Stretch.{Passed, at_module_moves}
use Rattle.checker.proofs.module_moves.Given as goal

abbrev pub invariant-loop-n : goal.invariant-loop-n
invariant-loop-n l = Passed l.image 0x13 (at_module_moves l.initial.last l.n l.events l.owner l.known l.states) l.from (at_module_moves l.last l.n l.events l.owner l.known l.states) l.i

abbrev pub decreases-loop-n : goal.decreases-loop-n
decreases-loop-n l = length l.image - l.i
