use borrow.Author.Tests.{eq-eqb, ne_eqb}
use Rattle.fitting.proofs.count_fits.Goals as goal

pub returns-then-o-eq3 : goal.returns-then-o-eq3
returns-then-o-eq3 c = simp (eq-eqb _ _ c.if-o-eq3.true)

pub returns-else-o-eq3 : goal.returns-else-o-eq3
returns-else-o-eq3 c = simp (ne_eqb _ _ c.if-o-eq3.false)
