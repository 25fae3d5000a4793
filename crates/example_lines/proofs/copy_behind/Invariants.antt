use Rattle.std.proofs.Common.{◌≡◌, drop}
use lib.Seq.{paste}
use Rattle.example_lines.proofs.copy_behind.Given as goal

abbrev pub invariant-loop-j : goal.invariant-loop-j
invariant-loop-j l = l.img ≡ paste l.initial.img l.to (drop l.from l.initial.img) l.j
