use mathlib.Core.Path.{◌≡◌}
use Rattle.places.specs.Places.{records_by}
use Rattle.device_states.specs.States.{state_of, shown_by}
use Rattle.device_states.proofs.shown_by.Given as goal

abbrev pub invariant-loop-v : goal.invariant-loop-v
invariant-loop-v l = (l.mask ≡ shown_by (records_by l.image l.places) (state_of l.states) l.v)
