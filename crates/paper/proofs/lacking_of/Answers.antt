use mathlib.Core.Path.{refl}
use native.Mathlib.Omega.{arith}
use Rattle.paper.specs.Paper.{lacking}
use Rattle.paper.proofs.lacking_of.Goals as goal

pub returns : goal.returns
unfolding lacking
returns c = (refl, omega arith)
