use Rattle.device_bytes.proofs.Laws.{slot_read}
use Rattle.device_bytes.proofs.slot_of.Goals as goal

pub returns : goal.returns
returns c = search slot_read
