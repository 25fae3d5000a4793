use Rattle.module_deliveries.proofs.Delivering.{deliver_accepted, deliver_refused}
use Rattle.module_deliveries.proofs.deliver.Goals as goal

pub returns-in-Ok : goal.returns-in-Ok
returns-in-Ok c = search deliver_accepted

pub returns-in-Err : goal.returns-in-Err
returns-in-Err c = search deliver_refused
