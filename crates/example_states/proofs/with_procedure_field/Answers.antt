use Rattle.example_states.proofs.Setting.{procedure_running, procedure_event, procedure_index, procedure_count, procedure_water, procedure_other}
use Rattle.example_states.proofs.with_procedure_field.Goals as goal

pub returns-in-114 : goal.returns-in-114
returns-in-114 c = search procedure_running

pub returns-in-101 : goal.returns-in-101
returns-in-101 c = search procedure_event

pub returns-in-105 : goal.returns-in-105
returns-in-105 c = search procedure_index

pub returns-in-99 : goal.returns-in-99
returns-in-99 c = search procedure_count

pub returns-in-116 : goal.returns-in-116
returns-in-116 c = search procedure_water

pub returns-in_default : goal.returns-in_default
returns-in_default c = search procedure_other
