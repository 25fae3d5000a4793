use mathlib.Core.Path.{◌≡◌}
use mathlib.Core.Bool.{true}
use Prim.Native.Nat.{◌≤◌}
use Rattle.bits.specs.Bit.{all_below}
use Rattle.holding.proofs.Held.{kept_at, held_fits_at}
use Rattle.holding.proofs.held_fits.Given as goal

abbrev pub invariant-loop-v : goal.invariant-loop-v
invariant-loop-v l = (l.v ≤ 32) × (l.whole ≡ all_below (kept_at l.adjacent l.held) l.v) × (all_below (held_fits_at l.adjacent l.held) l.v ≡ true)
