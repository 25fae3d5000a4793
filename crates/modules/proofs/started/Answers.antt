use mathlib.Core.Path.{ap₂}
use Rattle.modules.specs.Own.{with_state}
use Rattle.modules.specs.Turn.{start_own}
use Rattle.modules.proofs.started.Goals as goal

pub returns : goal.returns
unfolding start_own
returns c = ap₂ with_state c.empty.ensures c.module_initial.ensures
