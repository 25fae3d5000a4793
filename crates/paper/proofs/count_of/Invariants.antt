use Prim.Native.Nat.{◌-◌}
use lib.ListN.{length}
use Rattle.paper.proofs.Walked.{Counted}
use Rattle.paper.proofs.count_of.Given as goal

abbrev pub invariant-loop-k : goal.invariant-loop-k
invariant-loop-k l = Counted l.image l.n l.i l.kind l.size

abbrev pub decreases-loop-k : goal.decreases-loop-k
decreases-loop-k l = length l.image - l.i
