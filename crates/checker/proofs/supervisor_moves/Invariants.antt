use Rattle.std.proofs.Common.{◌-◌, length}
use Rattle.checker.specs.Stretch.{Passed, at_supervisors}
use Rattle.context_bytes.specs.Encoding.{alphabets}
use Rattle.checker.proofs.supervisor_moves.Given as goal

abbrev pub invariant-loop-n : goal.invariant-loop-n
invariant-loop-n l = Passed l.image 0x15 (at_supervisors l.initial.last l.n l.events l.known l.states (alphabets l.alphabet)) l.from (at_supervisors l.last l.n l.events l.known l.states (alphabets l.alphabet)) l.i

abbrev pub decreases-loop-n : goal.decreases-loop-n
decreases-loop-n l = length l.image - l.i
