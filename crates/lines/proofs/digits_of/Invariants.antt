use Rattle.std.proofs.Common.{◌≡◌, ◌≤◌, drop}
use Rattle.lines.specs.Number.{number_from, up_to}
use Rattle.lines.proofs.digits_of.Given as goal

abbrev pub invariant-loop-b : goal.invariant-loop-b
invariant-loop-b l = (l.n ≤ l.limit) × (up_to l.limit (number_from l.n (drop l.b-index l.s)) ≡ up_to l.limit (number_from 0 l.s))
