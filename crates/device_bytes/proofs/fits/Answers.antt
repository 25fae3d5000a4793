use Rattle.device_bytes.proofs.InPlace.{fits_other, fits_by, fits_none}
use Rattle.device_bytes.proofs.fits.Goals as goal

pub returns-then-s-ne-DEVICE_SIZE : goal.returns-then-s-ne-DEVICE_SIZE
returns-then-s-ne-DEVICE_SIZE c = search fits_other

pub returns-then-slots_fit : goal.returns-then-slots_fit
returns-then-slots_fit c = search fits_by

pub returns-else-slots_fit : goal.returns-else-slots_fit
returns-else-slots_fit c = search fits_none
