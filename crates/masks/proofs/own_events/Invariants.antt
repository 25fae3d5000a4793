use Prim.Native.Nat.{◌≤◌}
use mathlib.Core.Path.{◌≡◌}
use Rattle.bits.specs.Bit.{mask_of}
use Rattle.places.specs.Places.{records_by}
use Rattle.plan.specs.Plan.{own_event}
use Rattle.masks.proofs.own_events.Given as goal

abbrev pub invariant-loop-e : goal.invariant-loop-e
invariant-loop-e l = (l.e ≤ 64) × (l.mask ≡ mask_of (own_event (records_by l.image l.places) l.m) l.e)
