use mathlib.Core.Path.{refl}
use Rattle.places.specs.Runs.{is_move}
use Rattle.plan.specs.Plan.{state_or}
use Rattle.plan.proofs.Answers.{moved_by}
use Rattle.plan.proofs.supervisor_moved.Goals as goal

pub target_of-requires : goal.target_of-requires
unfolding is_move
target_of-requires c = refl

pub returns-in_default : goal.returns-in_default
unfolding state_or
returns-in_default c = search moved_by

pub returns : goal.returns
unfolding state_or
returns c = search moved_by
