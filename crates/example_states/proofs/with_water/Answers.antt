use Rattle.example_states.proofs.Setting.{water_target, water_total}
use Rattle.example_states.proofs.with_water.Goals as goal

pub returns-then-letter_in-eq97 : goal.returns-then-letter_in-eq97
returns-then-letter_in-eq97 c = search water_target

pub returns-else-letter_in-eq97 : goal.returns-else-letter_in-eq97
returns-else-letter_in-eq97 c = search water_total
