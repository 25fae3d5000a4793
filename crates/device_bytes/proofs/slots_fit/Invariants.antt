use mathlib.Core.Path.{◌≡◌}
use mathlib.Core.Bool.{true}
use Prim.Native.Nat.{◌≤◌}
use Rattle.bits.specs.Bit.{all_below}
use Rattle.places.specs.Places.{records_by}
use Rattle.device_bytes.specs.Device.{slot_fits}
use Rattle.device_bytes.proofs.slots_fit.Given as goal

abbrev pub invariant-loop-m : goal.invariant-loop-m
invariant-loop-m l = (l.m ≤ 16) × (all_below (slot_fits (records_by l.image l.places) l.n l.s) l.m ≡ true)
