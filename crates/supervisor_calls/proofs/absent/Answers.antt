use Rattle.permits.specs.Supervisor.{absent}
use Rattle.supervisor_calls.proofs.Delivering.{absent_arm}
use Rattle.supervisor_calls.proofs.absent.Goals as goal

pub returns-in-Some : goal.returns-in-Some
unfolding absent
returns-in-Some c = search absent_arm

pub returns-in-None : goal.returns-in-None
unfolding absent
returns-in-None c = search absent_arm
