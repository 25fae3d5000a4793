use mathlib.Core.Path.{ap₂}
use Rattle.permits.specs.Module.{with_own}
use Rattle.module_calls.proofs.started.Goals as goal

pub returns : goal.returns
returns c = ap₂ with_own c.empty_module-x.ensures c.started-own.ensures
