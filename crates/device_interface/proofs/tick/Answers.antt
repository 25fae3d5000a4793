use Rattle.device_interface.proofs.Laws.{tick_by, tick_refused}
use Rattle.device_interface.proofs.tick.Goals as goal

pub returns-in-Ok : goal.returns-in-Ok
returns-in-Ok c = search tick_by

pub returns-in-Err : goal.returns-in-Err
returns-in-Err c = search tick_refused
