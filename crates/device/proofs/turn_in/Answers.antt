use Rattle.device.proofs.Calls.{turn_taken_lem, turn_numbered}
use Rattle.device.proofs.turn_in.Goals as goal

pub returns-then-n-eq0 : goal.returns-then-n-eq0
returns-then-n-eq0 c = search turn_taken_lem

pub returns-else-n-eq0 : goal.returns-else-n-eq0
returns-else-n-eq0 c = search turn_numbered
