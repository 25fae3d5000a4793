use Rattle.device_states.proofs.Slots.{states_all}
use Rattle.device_states.proofs.states_fit.Goals as goal

pub returns : goal.returns
returns c = search states_all
