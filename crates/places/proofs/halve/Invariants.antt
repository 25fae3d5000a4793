use mathlib.Core.Path.{◌≡◌}
use Prim.Native.Nat.{◌-◌, ◌≤◌}
use Rattle.places.specs.Places.{halved}
use Rattle.places.specs.Runs.{before}
use Rattle.places.proofs.halve.Given as goal

abbrev pub invariant-loop-lo : goal.invariant-loop-lo
invariant-loop-lo l = (l.lo ≤ l.hi) × (l.hi ≤ l.run.count) × (halved (before l.image l.run l.key) (l.hi - l.lo) l.lo l.hi ≡ halved (before l.image l.run l.key) l.run.count 0 l.run.count)

abbrev pub decreases-loop-lo : goal.decreases-loop-lo
decreases-loop-lo l = l.hi - l.lo
