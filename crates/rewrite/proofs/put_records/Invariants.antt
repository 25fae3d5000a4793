use Prim.Native.Nat.{◌-◌}
use lib.ListN.{length}
use Rattle.rewrite.proofs.Apart.{Going}
use Rattle.rewrite.proofs.put_records.Given as goal

abbrev pub invariant-loop-r : goal.invariant-loop-r
invariant-loop-r l = Going l.image l.initial.buf l.buf l.i

abbrev pub decreases-loop-r : goal.decreases-loop-r
decreases-loop-r l = length l.image - l.i
