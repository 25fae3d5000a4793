use Rattle.module_calls.proofs.Calls.{reply_absent, reply_unfit, reply_fit}
use Rattle.module_calls.proofs.replied.Goals as goal

pub returns-then-fits : goal.returns-then-fits
returns-then-fits c = search reply_fit

pub returns-else-fits : goal.returns-else-fits
returns-else-fits c = search reply_unfit

pub returns-else-m-modules_of : goal.returns-else-m-modules_of
returns-else-m-modules_of c = search reply_absent
