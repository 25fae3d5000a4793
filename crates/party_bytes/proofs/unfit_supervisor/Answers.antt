use mathlib.Core.Path.{ap}
use Rattle.permits.specs.declared.Supervisor.{Supervisor}
use Rattle.permits.specs.Supervisor.{with_last}
use Rattle.party_bytes.proofs.unfit_supervisor.Goals as goal

pub returns : goal.returns
returns c = ap (λ (y : Supervisor). with_last y 255) c.empty_supervisor-y.ensures
