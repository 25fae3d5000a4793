use Rattle.device_bytes.proofs.Laws.{states_yes, states_no}
use Rattle.device_bytes.proofs.states_of.Goals as goal

pub returns-then-s-eq-DEVICE_SIZE : goal.returns-then-s-eq-DEVICE_SIZE
returns-then-s-eq-DEVICE_SIZE c = search states_yes

pub returns-else-s-eq-DEVICE_SIZE : goal.returns-else-s-eq-DEVICE_SIZE
returns-else-s-eq-DEVICE_SIZE c = search states_no
