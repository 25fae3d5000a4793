use Rattle.plan_interface.proofs.Laws.{write_some, write_none}
use Rattle.plan_interface.proofs.write_record.Goals as goal

pub returns-in-Some : goal.returns-in-Some
returns-in-Some c = search write_some

pub returns-in-None : goal.returns-in-None
returns-in-None c = search write_none
