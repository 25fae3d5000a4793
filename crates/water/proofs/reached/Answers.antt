use mathlib.Core.Path.{refl}
use Rattle.litres.proofs.Laws.{le_counts}
use Rattle.water.proofs.reached.Goals as goal

pub returns : goal.returns
returns c = record { is = refl; exact = λ t u. le_counts _ _ t u }
