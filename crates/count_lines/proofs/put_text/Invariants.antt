use Rattle.count_lines.proofs.Writing.{LinesWritten}
use Rattle.count_lines.proofs.put_text.Given as goal

abbrev pub invariant-loop-j : goal.invariant-loop-j
invariant-loop-j l = LinesWritten l.counts l.numbers l.initial.at l.initial.buffer l.buffer l.at l.j
