use Rattle.device_bytes.proofs.Laws.{zeros_by}
use Rattle.device_bytes.proofs.zeros_from.Goals as goal

pub returns : goal.returns
returns c = search zeros_by
