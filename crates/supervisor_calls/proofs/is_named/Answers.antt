use Rattle.supervisor_calls.proofs.Delivering.{release_asked, release_named}
use Rattle.supervisor_calls.proofs.is_named.Goals as goal

pub returns-then-supervisor-v : goal.returns-then-supervisor-v
returns-then-supervisor-v c = search release_named

pub returns : goal.returns
returns c = search release_asked
