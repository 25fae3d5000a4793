use Rattle.count_lines.proofs.Length.{LengthSoFar}
use Rattle.count_lines.proofs.line_length.Given as goal

abbrev pub invariant-loop-rest : goal.invariant-loop-rest
invariant-loop-rest l = LengthSoFar l.x l.rest l.n

abbrev pub decreases-loop-rest : goal.decreases-loop-rest
decreases-loop-rest l = l.rest
