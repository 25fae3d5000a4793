use Rattle.permits.specs.Supervisor.{held_by}
use Rattle.supervisor_calls.proofs.Delivering.{held_arm}
use Rattle.supervisor_calls.proofs.held_by.Goals as goal

pub returns-in-Home : goal.returns-in-Home
unfolding held_by
returns-in-Home c = search held_arm

pub returns-in-Out : goal.returns-in-Out
unfolding held_by
returns-in-Out c = search held_arm
