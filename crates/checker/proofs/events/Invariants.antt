use Rattle.std.proofs.Common.{◌≡◌, ◌-◌, length}
use Rattle.checker.specs.Stretch.{Passed, at_events}
use Rattle.checker.proofs.events.Given as goal

abbrev pub invariant-loop-n : goal.invariant-loop-n
invariant-loop-n l = Passed l.image 0x11 (at_events l.initial.last l.n l.known l.controllable l.initial.owner) l.from (at_events l.last l.n l.declared l.commands l.owner) l.i × (length l.owner ≡ 64)

abbrev pub decreases-loop-n : goal.decreases-loop-n
decreases-loop-n l = length l.image - l.i
