use Rattle.party_bytes.specs.Supervisor.{supervisor_at}
use Rattle.party_bytes.proofs.supervisor_at.Goals as goal

pub returns : goal.returns
unfolding supervisor_at
returns c = cc
