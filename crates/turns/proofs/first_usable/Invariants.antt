use Rattle.std.specs.Prelude.{None}
use Prim.Native.Nat.{◌≤◌}
use mathlib.Core.Path.{◌≡◌}
use lib.ListN.{length, take}
use Rattle.bits.specs.Bit.{least}
use Rattle.turns.specs.Usable.{is_usable}
use Rattle.turns.proofs.first_usable.Given as goal

abbrev pub invariant-loop-i : goal.invariant-loop-i
invariant-loop-i l = (length l.q ≡ 8) × (l.i ≤ l.n) × (least (is_usable l.moves (take l.n l.q)) l.i ≡ None)
