use Rattle.example_states.proofs.Setting.{field_state, field_length, field_queue, field_outputs, field_procedure}
use Rattle.example_states.proofs.with_named.Goals as goal

pub returns-in-115 : goal.returns-in-115
returns-in-115 c = search field_state

pub returns-in-108 : goal.returns-in-108
returns-in-108 c = search field_length

pub returns-in-112 : goal.returns-in-112
returns-in-112 c = search field_queue

pub returns-in-111 : goal.returns-in-111
returns-in-111 c = search field_outputs

pub returns-in_default : goal.returns-in_default
returns-in_default c = search field_procedure
