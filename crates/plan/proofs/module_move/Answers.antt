use mathlib.Core.Path.{refl}
use Rattle.places.specs.Runs.{is_move}
use Rattle.plan.proofs.module_move.Goals as goal

pub target_of-requires : goal.target_of-requires
unfolding is_move
target_of-requires c = refl
