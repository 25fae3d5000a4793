use Rattle.module_steps.proofs.Stepping.{turn_short, turn_taken_lem}
use Rattle.module_steps.proofs.take_turn.Goals as goal

pub returns-then-release : goal.returns-then-release
returns-then-release c = search turn_taken_lem

pub returns-else-release : goal.returns-else-release
returns-else-release c = search turn_short
