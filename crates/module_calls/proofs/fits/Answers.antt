use Rattle.module_calls.proofs.Calls.{fits_without, fits_with}
use Rattle.module_calls.proofs.fits.Goals as goal

pub returns-then-x : goal.returns-then-x
returns-then-x c = search fits_without

pub returns : goal.returns
returns c = search fits_with
