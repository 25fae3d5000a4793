use Rattle.modules.specs.Fits.{idle_fits}
use Rattle.fitting.proofs.idle_fits.Goals as goal

pub returns : goal.returns
unfolding idle_fits
returns c = cc
