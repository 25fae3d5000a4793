use Rattle.module_deliveries.proofs.Delivering.{deliver_fitting_misshapen, deliver_fitting_named, deliver_fitting_unnamed}
use Rattle.module_deliveries.proofs.deliver_fitting.Goals as goal

pub returns-in_default : goal.returns-in_default
returns-in_default c = search deliver_fitting_misshapen

pub returns-then-is_named : goal.returns-then-is_named
returns-then-is_named c = search deliver_fitting_named

pub returns-else-is_named : goal.returns-else-is_named
returns-else-is_named c = search deliver_fitting_unnamed
