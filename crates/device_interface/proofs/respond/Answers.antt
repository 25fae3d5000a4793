use Rattle.device_interface.proofs.Laws.{respond_by, respond_refused}
use Rattle.device_interface.proofs.respond.Goals as goal

pub returns-in-Ok : goal.returns-in-Ok
returns-in-Ok c = search respond_by

pub returns-in-Err : goal.returns-in-Err
returns-in-Err c = search respond_refused
