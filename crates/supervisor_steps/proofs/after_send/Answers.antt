use Rattle.supervisor_steps.proofs.Serving.{after_send_lem}
use Rattle.supervisor_steps.proofs.after_send.Goals as goal

pub returns : goal.returns
returns c = search after_send_lem
