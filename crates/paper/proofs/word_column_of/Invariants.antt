use Rattle.paper.proofs.Put.{Filled}
use Rattle.paper.proofs.word_column_of.Given as goal

abbrev pub invariant-loop-i : goal.invariant-loop-i
invariant-loop-i l = Filled l.x l.column l.rest l.i
