use Prim.Native.Nat.{◌≤◌}
use mathlib.Core.Path.{◌≡◌}
use Rattle.bits.specs.Bit.{mask_of}
use Rattle.places.specs.Places.{records_by}
use Rattle.masks.proofs.Events.{is_neighbour}
use Rattle.masks.proofs.neighbours.Given as goal

abbrev pub invariant-loop-v : goal.invariant-loop-v
invariant-loop-v l = (l.v ≤ 32) × (l.mask ≡ mask_of (is_neighbour (records_by l.image l.places) l.m) l.v)
