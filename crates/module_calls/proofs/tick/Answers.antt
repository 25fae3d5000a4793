use Rattle.module_calls.proofs.Calls.{tick_accepted, reply_refused}
use Rattle.module_calls.proofs.tick.Goals as goal

pub returns-in-Ok : goal.returns-in-Ok
returns-in-Ok c = search tick_accepted

pub returns-in-Err : goal.returns-in-Err
returns-in-Err c = search reply_refused
