use Rattle.packing.proofs.Accepted.{flow_none, flow_some}
use Rattle.packing.proofs.flow.Goals as goal

pub returns-then-sensor-eq0 : goal.returns-then-sensor-eq0
returns-then-sensor-eq0 c = search flow_none

pub returns-else-sensor-eq0 : goal.returns-else-sensor-eq0
returns-else-sensor-eq0 c = search flow_some
