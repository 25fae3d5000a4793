use Prim.Native.Nat.{◌-◌}
use lib.ListN.{length}
use Rattle.paper.proofs.Walked.{Lined}
use Rattle.paper.proofs.put_lines.Given as goal

abbrev pub invariant-loop-k : goal.invariant-loop-k
invariant-loop-k l = Lined l.image l.initial.buf l.buf l.i l.o l.kind l.size

abbrev pub decreases-loop-k : goal.decreases-loop-k
decreases-loop-k l = length l.image - l.i
