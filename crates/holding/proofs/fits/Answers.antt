use Rattle.holding.proofs.Held.{fits_in_lem, fits_out}
use Rattle.holding.proofs.fits.Goals as goal

pub returns-then-held_fits : goal.returns-then-held_fits
returns-then-held_fits c = search fits_in_lem

pub returns-else-held_fits : goal.returns-else-held_fits
returns-else-held_fits c = search fits_out
