use Rattle.std.proofs.Common.{eq-eqb, ne_eqb}
use Rattle.checker.specs.Stretch.{noted_past}
use Rattle.checker.proofs.noted_past.Goals as goal

pub returns-then-next-from : goal.returns-then-next-from
unfolding noted_past
returns-then-next-from c = simp (eq-eqb _ _ c.if-next-from.true)

pub returns-else-next-from : goal.returns-else-next-from
unfolding noted_past
returns-else-next-from c = simp (ne_eqb _ _ c.if-next-from.false, c.noted.ensures)
