use Rattle.device_bytes.proofs.Laws.{Slots}
use lib.ListN.{length}
use Prim.Native.Nat.{◌≤◌}
use mathlib.Core.Path.{◌≡◌}
use Rattle.device_bytes.proofs.put_slots.Given as goal

abbrev pub invariant-loop-i : goal.invariant-loop-i
invariant-loop-i l = Slots l.owns l.initial.s l.s l.i × (length l.s ≡ length l.initial.s) × (l.i ≤ 16)
