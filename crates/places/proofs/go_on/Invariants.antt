use mathlib.Core.Path.{◌≡◌}
use Prim.Native.Nat.{◌-◌}
use Rattle.places.specs.Places.{onward}
use Rattle.places.specs.Runs.{before}
use Rattle.places.proofs.go_on.Given as goal

abbrev pub invariant-loop-i : goal.invariant-loop-i
invariant-loop-i l = onward (before l.image l.run l.key) (l.run.count - l.i) l.i ≡ onward (before l.image l.run l.key) (l.run.count - l.from) l.from
