use Rattle.pieces.specs.Taking.{Holds}
use Rattle.pieces.proofs.fill.Given as goal

abbrev pub invariant-loop-i : goal.invariant-loop-i
invariant-loop-i l = Holds l.piece l.initial.bytes l.held l.from l.bytes l.n l.i
