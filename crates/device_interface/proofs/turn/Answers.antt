use Rattle.device_interface.proofs.Laws.{turn_by_lem, turn_refused_lem}
use Rattle.device_interface.proofs.turn.Goals as goal

pub returns-in-Ok : goal.returns-in-Ok
returns-in-Ok c = search turn_by_lem

pub returns-in-Err : goal.returns-in-Err
returns-in-Err c = search turn_refused_lem
