use Rattle.device_bytes.proofs.Laws.{fits_not, fits_read, fits_lacking}
use Rattle.device_bytes.proofs.slot_fits.Goals as goal

pub returns-then-s-i-ge2 : goal.returns-then-s-i-ge2
returns-then-s-i-ge2 c = search fits_not

pub returns-then-m-n : goal.returns-then-m-n
returns-then-m-n c = search fits_read

pub returns-else-m-n : goal.returns-else-m-n
returns-else-m-n c = search fits_lacking
