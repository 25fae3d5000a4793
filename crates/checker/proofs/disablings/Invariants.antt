use Rattle.std.proofs.Common.{◌-◌, length}
use Rattle.checker.specs.Stretch.{Passed, at_disablings}
use Rattle.context_bytes.specs.Encoding.{alphabets}
use Rattle.checker.proofs.disablings.Given as goal

abbrev pub invariant-loop-n : goal.invariant-loop-n
invariant-loop-n l = Passed l.image 0x16 (at_disablings l.initial.last l.n l.events l.controllable l.known l.states (alphabets l.alphabet)) l.from (at_disablings l.last l.n l.events l.controllable l.known l.states (alphabets l.alphabet)) l.i

abbrev pub decreases-loop-n : goal.decreases-loop-n
decreases-loop-n l = length l.image - l.i
