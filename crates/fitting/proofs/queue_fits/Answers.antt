use Rattle.fitting.proofs.Parts.{queue_by, queue_over}
use Rattle.fitting.proofs.queue_fits.Goals as goal

pub returns-then-n-le8 : goal.returns-then-n-le8
returns-then-n-le8 c = search queue_by

pub returns-else-n-le8 : goal.returns-else-n-le8
returns-else-n-le8 c = search queue_over
