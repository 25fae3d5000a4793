use Rattle.supervisor_calls.proofs.Delivering.{after_release_lem}
use Rattle.supervisor_calls.proofs.after_release.Goals as goal

pub returns : goal.returns
returns c = search after_release_lem
