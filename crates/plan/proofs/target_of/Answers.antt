use native.Mathlib.Omega.{arith}
use Rattle.places.proofs.Spots.{spot_within}
use Rattle.plan.proofs.Answers.{target_none, target_it}
use Rattle.plan.proofs.target_of.Goals as goal

pub overflow_add-at : goal.overflow_add-at
overflow_add-at c = omega (arith, spot_within _ _ _ c.seek-at.ensures)

pub returns-then-at-eq0 : goal.returns-then-at-eq0
returns-then-at-eq0 c = search target_none

pub returns-else-at-eq0 : goal.returns-else-at-eq0
returns-else-at-eq0 c = search target_it
