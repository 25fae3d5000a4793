use Rattle.module_calls.proofs.Calls.{respond_accepted, reply_refused}
use Rattle.module_calls.proofs.respond.Goals as goal

pub returns-in-Ok : goal.returns-in-Ok
returns-in-Ok c = search respond_accepted

pub returns-in-Err : goal.returns-in-Err
returns-in-Err c = search reply_refused
