use Rattle.supervisor_steps.proofs.Serving.{sends_by, short_by}
use Rattle.supervisor_steps.proofs.send.Goals as goal

pub returns-then-write : goal.returns-then-write
returns-then-write c = search sends_by

pub returns-else-write : goal.returns-else-write
returns-else-write c = search short_by
