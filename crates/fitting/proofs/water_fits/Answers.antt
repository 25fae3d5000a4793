use borrow.Author.Tests.{eq-eqb, ne_eqb}
use Rattle.fitting.proofs.water_fits.Goals as goal

pub returns-then-o-eq4 : goal.returns-then-o-eq4
returns-then-o-eq4 c = simp (eq-eqb _ _ c.if-o-eq4.true) c.running.ensures

pub returns-else-o-eq4 : goal.returns-else-o-eq4
returns-else-o-eq4 c = simp (ne_eqb _ _ c.if-o-eq4.false) c.is_zero.ensures
