use Rattle.party_bytes.proofs.Laws.{supervisor_yes, supervisor_no}
use Rattle.party_bytes.proofs.read_supervisor.Goals as goal

pub returns-then-is_supervisor : goal.returns-then-is_supervisor
returns-then-is_supervisor c = search supervisor_yes

pub returns-else-is_supervisor : goal.returns-else-is_supervisor
returns-else-is_supervisor c = search supervisor_no
