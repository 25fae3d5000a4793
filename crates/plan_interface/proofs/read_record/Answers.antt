use Rattle.plan_interface.proofs.Laws.{read_whole, read_stop}
use Rattle.plan_interface.proofs.read_record.Goals as goal

pub returns-in-Ok : goal.returns-in-Ok
returns-in-Ok c = search read_whole

pub returns-in-Err-Unknown : goal.returns-in-Err-Unknown
returns-in-Err-Unknown c = search read_stop

pub returns-in-Err-Cut : goal.returns-in-Err-Cut
returns-in-Err-Cut c = search read_stop

pub returns-in-Err-Nothing : goal.returns-in-Err-Nothing
returns-in-Err-Nothing c = search read_stop
