use Rattle.std.proofs.Common.{◌≡◌, ◌≤◌, length, drop}
use Rattle.example_lines.specs.Words.{word_from}
use Rattle.example_lines.proofs.word_at.Given as goal

abbrev pub invariant-loop-i : goal.invariant-loop-i
invariant-loop-i l = (l.i ≤ length l.s) × (word_from l.left (drop l.i l.s) ≡ word_from l.k l.s)
