use Rattle.fitting.proofs.Parts.{fits_by}
use Rattle.fitting.proofs.fits.Goals as goal

pub returns : goal.returns
returns c = search fits_by
