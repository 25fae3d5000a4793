use mathlib.Core.Path.{◌≡◌}
use mathlib.Core.Bool.{true}
use Prim.Native.Nat.{◌≤◌}
use Rattle.bits.specs.Bit.{all_below}
use Rattle.places.specs.Places.{records_by}
use Rattle.device_states.proofs.Slots.{slot_passes, state_passes}
use Rattle.device_states.proofs.states_fit_of.Given as goal

abbrev pub invariant-loop-v : goal.invariant-loop-v
invariant-loop-v l = (l.v ≤ 32) × (all_below (slot_passes (state_passes (records_by l.image l.places) l.n) 0 l.states) l.v ≡ true)
