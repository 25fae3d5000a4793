use Rattle.count_lines.proofs.Writing.{Digits}
use Rattle.count_lines.proofs.put_line.Given as goal

abbrev pub invariant-loop-rest : goal.invariant-loop-rest
invariant-loop-rest l = Digits l.x l.initial.at l.initial.buffer l.buffer l.at l.rest

abbrev pub decreases-loop-rest : goal.decreases-loop-rest
decreases-loop-rest l = l.rest
