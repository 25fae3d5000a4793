use mathlib.Core.Path.{refl}
use Rattle.device_states.specs.States.{shown_by}
use Rattle.device_states.proofs.Slots.{shown_on}
use Rattle.device_states.proofs.shown_by.Goals as goal

pub loop-v-init : goal.loop-v-init
unfolding shown_by
loop-v-init c = refl

pub loop-v-preserved : goal.loop-v-preserved
loop-v-preserved c = search shown_on
