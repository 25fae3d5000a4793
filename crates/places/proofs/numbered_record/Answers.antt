use Rattle.places.proofs.Numbered.{event_there, module_there, supervisor_there}
use Rattle.places.proofs.numbered_record.Goals as goal

pub returns-then-kind-eq17 : goal.returns-then-kind-eq17
returns-then-kind-eq17 c = search event_there

pub returns-then-kind-eq18 : goal.returns-then-kind-eq18
returns-then-kind-eq18 c = search module_there

pub returns : goal.returns
returns c = search supervisor_there
