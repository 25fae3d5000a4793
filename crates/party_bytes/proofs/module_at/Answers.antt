use Rattle.party_bytes.proofs.Laws.{module_read}
use Rattle.party_bytes.proofs.module_at.Goals as goal

pub returns : goal.returns
returns c = search module_read
