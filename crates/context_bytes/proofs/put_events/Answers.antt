use Rattle.context_bytes.proofs.Writing.{events_put, length_events}
use Rattle.context_bytes.proofs.put_events.Goals as goal

pub returns : goal.returns
returns c = (search events_put, search length_events)
