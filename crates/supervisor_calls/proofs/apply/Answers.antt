use Rattle.supervisor_calls.proofs.Delivering.{applied_none, applied_moves}
use Rattle.supervisor_calls.proofs.apply.Goals as goal

pub returns-then-e-eq255 : goal.returns-then-e-eq255
returns-then-e-eq255 c = search applied_none

pub returns-else-e-eq255 : goal.returns-else-e-eq255
returns-else-e-eq255 c = search applied_moves
