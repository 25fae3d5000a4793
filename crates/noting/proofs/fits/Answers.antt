use Rattle.permits.specs.Supervisor.{supervisor_fits}
use Rattle.noting.proofs.Fitting.{fits_by}
use Rattle.noting.proofs.fits.Goals as goal

pub returns : goal.returns
unfolding supervisor_fits
returns c = fits_by _ _ _ _ c.supervisor_state.ensures c.modules_fit.ensures
