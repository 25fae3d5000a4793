use Rattle.party_bytes.specs.Supervisor.{is_supervisor}
use Rattle.party_bytes.proofs.is_supervisor.Goals as goal

pub returns : goal.returns
unfolding is_supervisor
returns c = cc
