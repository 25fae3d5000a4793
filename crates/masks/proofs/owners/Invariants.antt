use mathlib.Core.Path.{◌≡◌}
use Rattle.places.specs.Places.{records_by}
use Rattle.masks.proofs.Near.{owners_below}
use Rattle.masks.proofs.owners.Given as goal

abbrev pub invariant-loop-e : goal.invariant-loop-e
invariant-loop-e l = l.mask ≡ owners_below (records_by l.image l.places) l.alphabet l.e
