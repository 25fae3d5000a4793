use Rattle.std.proofs.Common.{◌≡◌, ◌+◌, ◌≤◌, drop}
use Rattle.example_lines.specs.Words.{spaces_in}
use Rattle.example_lines.proofs.spaces_in.Given as goal

abbrev pub invariant-loop-b : goal.invariant-loop-b
invariant-loop-b l = (l.n ≤ l.b-index) × (l.n + spaces_in (drop l.b-index l.s) ≡ spaces_in l.s)
