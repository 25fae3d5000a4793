use mathlib.Core.Path.{◌≡◌}
use Prim.Native.Nat.{◌-◌}
use lib.ListN.{length}
use Rattle.judge.specs.Past.{past_from}
use Rattle.judge.proofs.pass.Given as goal

abbrev pub invariant-loop-r : goal.invariant-loop-r
invariant-loop-r l = past_from l.image l.i l.c ≡ past_from l.image l.from l.initial.c

abbrev pub decreases-loop-r : goal.decreases-loop-r
decreases-loop-r l = length l.image - l.i
