use mathlib.Core.Path.{◌≡◌}
use Prim.Native.Nat.{◌+◌, ◌≤◌}
use lib.ListN.{length, drop}
use lib.Seq.{sets}
use Rattle.words.proofs.put_bytes.Given as goal

abbrev pub invariant-loop-i : goal.invariant-loop-i
invariant-loop-i l = (sets l.s (l.o + l.i) (drop l.i l.bytes) ≡ sets l.initial.s l.o l.bytes) × (length l.s ≡ length l.initial.s) × (l.i ≤ length l.bytes)
