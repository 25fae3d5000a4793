use Rattle.party_bytes.proofs.Laws.{supervisor_put}
use Rattle.party_bytes.proofs.put_supervisor.Goals as goal

pub returns : goal.returns
returns c = search supervisor_put
