use Rattle.places.proofs.Scanning.{Moves}
use Rattle.places.proofs.moves_of.Given as goal

abbrev pub invariant-loop-i : goal.invariant-loop-i
invariant-loop-i l = Moves l.image l.run l.owner l.from l.initial.i l.floor l.mask l.i
