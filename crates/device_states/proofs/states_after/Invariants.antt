use mathlib.Core.Path.{◌≡◌}
use Prim.Native.Nat.{◌≤◌}
use Rattle.places.specs.Places.{records_by}
use Rattle.words.specs.Lists.{front}
use Rattle.device_states.proofs.Slots.{moved}
use Rattle.device_states.proofs.states_after.Given as goal

abbrev pub invariant-loop-i : goal.invariant-loop-i
invariant-loop-i l = (l.i ≤ 32) × (l.next ≡ front (moved (records_by l.image l.places) l.states l.e) l.i l.states)
