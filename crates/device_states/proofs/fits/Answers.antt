use Rattle.device_states.proofs.Slots.{device_fits_lem, owns_unfit}
use Rattle.device_states.proofs.fits.Goals as goal

pub returns-then-owns_fit : goal.returns-then-owns_fit
returns-then-owns_fit c = search device_fits_lem

pub returns-else-owns_fit : goal.returns-else-owns_fit
returns-else-owns_fit c = search owns_unfit
