use Rattle.places.proofs.Counting.{run_whole, run_none, run_past}
use Rattle.places.proofs.run_by.Goals as goal

pub returns-then-begin-end : goal.returns-then-begin-end
returns-then-begin-end c = search run_whole

pub returns-else-begin-end : goal.returns-else-begin-end
returns-else-begin-end c = search run_none

pub returns-else-end-image : goal.returns-else-end-image
returns-else-end-image c = search run_past
