use mathlib.Core.Path.{sym, ◌∙◌}
use Rattle.supervisor_calls.proofs.Delivering.{few_modules, deliver_refused, deliver_absent, deliver_unfit, deliver_fit}
use Rattle.supervisor_calls.proofs.deliver.Goals as goal

pub deliver_in-requires : goal.deliver_in-requires
deliver_in-requires c = (search few_modules, sym c.fits.ensures ∙ c.if-fits.true)

pub returns-then-fits : goal.returns-then-fits
returns-then-fits c = search deliver_fit

pub returns-else-fits : goal.returns-else-fits
returns-else-fits c = search deliver_unfit

pub returns-else-v-supervisors_of : goal.returns-else-v-supervisors_of
returns-else-v-supervisors_of c = search deliver_absent

pub returns-in-Err : goal.returns-in-Err
returns-in-Err c = search deliver_refused
