use Rattle.std.proofs.Common.{◌≡◌, drop}
use Rattle.example_lines.specs.Words.{number_from}
use Rattle.example_lines.proofs.number_of.Given as goal

abbrev pub invariant-loop-b : goal.invariant-loop-b
invariant-loop-b l = number_from l.base l.n (drop l.b-index l.s) ≡ number_from l.base 0 l.s
