use Rattle.device.proofs.Calls.{turn_accepted, turn_refused_lem}
use Rattle.device.proofs.turn.Goals as goal

pub returns-in-Ok : goal.returns-in-Ok
returns-in-Ok c = search turn_accepted

pub returns-in-Err : goal.returns-in-Err
returns-in-Err c = search turn_refused_lem
