use mathlib.Core.Path.{◌≡◌}
use Prim.Native.Nat.{◌≤◌}
use lib.ListN.{length}
use Rattle.context_bytes.proofs.Writing.{Put}
use Rattle.context_bytes.proofs.put_words.Given as goal

abbrev pub invariant-loop-i : goal.invariant-loop-i
invariant-loop-i l = Put l.o l.fn.a l.initial.s l.s l.i × (length l.s ≡ length l.initial.s) × (l.i ≤ 32)
