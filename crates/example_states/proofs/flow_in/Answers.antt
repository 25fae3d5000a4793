use Rattle.example_states.proofs.Setting.{flow_none, flow_litres}
use Rattle.example_states.proofs.flow_in.Goals as goal

pub returns-then-letter_in-eq111 : goal.returns-then-letter_in-eq111
returns-then-letter_in-eq111 c = search flow_none

pub returns-else-letter_in-eq111 : goal.returns-else-letter_in-eq111
returns-else-letter_in-eq111 c = search flow_litres
