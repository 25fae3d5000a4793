use mathlib.Core.Path.{ap}
use Rattle.modules.specs.declared.Own.{Own}
use Rattle.modules.specs.Own.{with_cells}
use Rattle.own_bytes.proofs.unfit.Goals as goal

pub returns : goal.returns
returns c = ap (λ (o : Own). with_cells o o.queue 255) c.empty-own.ensures
