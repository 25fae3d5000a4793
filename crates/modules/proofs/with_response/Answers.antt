use Rattle.modules.proofs.Queue.{eight, queued_by}
use Rattle.modules.proofs.with_response.Goals as goal

pub returns : goal.returns
returns c = search (queued_by, eight)
