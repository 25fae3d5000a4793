use Rattle.modules.specs.Fits.{procedure_fits}
use Rattle.fitting.proofs.procedure_fits.Goals as goal

pub returns-then-p : goal.returns-then-p
unfolding procedure_fits
returns-then-p c = simp c.if-p.true c.step_fits.ensures

pub returns-else-p : goal.returns-else-p
unfolding procedure_fits
returns-else-p c = simp c.if-p.false c.idle_fits.ensures
