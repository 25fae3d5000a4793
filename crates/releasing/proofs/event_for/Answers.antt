use Rattle.releasing.proofs.Releasing.{event_none, event_in, event_out}
use Rattle.releasing.proofs.event_for.Goals as goal

pub returns-in_default : goal.returns-in_default
returns-in_default c = search event_none

pub returns-then-in_alphabet : goal.returns-then-in_alphabet
returns-then-in_alphabet c = search event_in

pub returns-else-in_alphabet : goal.returns-else-in_alphabet
returns-else-in_alphabet c = search event_out
