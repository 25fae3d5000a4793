use mathlib.Core.Path.{◌≡◌}
use Prim.Native.Nat.{◌+◌, ◌-◌, ◌≤◌}
use lib.ListN.{length, drop}
use Rattle.pieces.specs.Pieces.{piece_taken}
use Rattle.pieces.proofs.take.Given as goal

abbrev pub invariant-loop-i : goal.invariant-loop-i
invariant-loop-i l = (piece_taken l.s (drop l.i l.piece) ≡ piece_taken l.initial.s l.piece) × (l.s.taken + (length l.piece - l.i) ≤ 49152)

abbrev pub decreases-loop-i : goal.decreases-loop-i
decreases-loop-i l = length l.piece - l.i
