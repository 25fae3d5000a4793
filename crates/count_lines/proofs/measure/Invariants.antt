use Rattle.count_lines.proofs.Length.{Left}
use Rattle.count_lines.proofs.measure.Given as goal

abbrev pub invariant-loop-j : goal.invariant-loop-j
invariant-loop-j l = Left l.counts l.numbers l.sum l.room l.left l.j
