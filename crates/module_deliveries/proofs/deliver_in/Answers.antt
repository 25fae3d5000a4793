use Rattle.module_deliveries.proofs.Delivering.{counted_in, deliver_absent, deliver_unfit, deliver_fit}
use borrow.Author.Rules.{rules}
use Rattle.module_deliveries.proofs.deliver_in.Goals as goal

pub deliver_fitting-requires : goal.deliver_fitting-requires
deliver_fitting-requires c = search (counted_in, rules)

pub returns-then-fits : goal.returns-then-fits
returns-then-fits c = search deliver_fit

pub returns-else-fits : goal.returns-else-fits
returns-else-fits c = search deliver_unfit

pub returns-else-m-modules_of : goal.returns-else-m-modules_of
returns-else-m-modules_of c = search deliver_absent
