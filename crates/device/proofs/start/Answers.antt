use Rattle.device.proofs.Calls.{start_accepted, start_refused}
use Rattle.device.proofs.start.Goals as goal

pub returns-in-Ok : goal.returns-in-Ok
returns-in-Ok c = search start_accepted

pub returns-in-Err : goal.returns-in-Err
returns-in-Err c = search start_refused
