use mathlib.Core.Path.{sym, ap, ◌∙◌}
use Rattle.rules.specs.LookUp.{field1, field2, field3, word_field}
use Rattle.plan.specs.Plan.{field4}
use Rattle.plan.specs.Fields.{fields_of}
use Rattle.plan.proofs.fields_of.Goals as goal

pub returns-in-Head : goal.returns-in-Head
unfolding field1 field2 field3 field4 word_field
returns-in-Head c = c.fields_by.ensures ∙ sym (ap fields_of c.in-Head.is)

pub returns-in-Event : goal.returns-in-Event
unfolding field1 field2 field3 field4 word_field
returns-in-Event c = c.fields_by-in-Event.ensures ∙ sym (ap fields_of c.in-Event.is)

pub returns-in-Module : goal.returns-in-Module
unfolding field1 field2 field3 field4 word_field
returns-in-Module c = c.fields_by-in-Module.ensures ∙ sym (ap fields_of c.in-Module.is)

pub returns-in-ModuleMove : goal.returns-in-ModuleMove
unfolding field1 field2 field3 field4 word_field
returns-in-ModuleMove c = c.fields_by-in-ModuleMove.ensures ∙ sym (ap fields_of c.in-ModuleMove.is)

pub returns-in-Supervisor : goal.returns-in-Supervisor
unfolding field1 field2 field3 field4 word_field
returns-in-Supervisor c = c.fields_by-in-Supervisor.ensures ∙ sym (ap fields_of c.in-Supervisor.is)

pub returns-in-SupervisorMove : goal.returns-in-SupervisorMove
unfolding field1 field2 field3 field4 word_field
returns-in-SupervisorMove c = c.fields_by-in-SupervisorMove.ensures ∙ sym (ap fields_of c.in-SupervisorMove.is)

pub returns-in-Disabling : goal.returns-in-Disabling
unfolding field1 field2 field3 field4 word_field
returns-in-Disabling c = c.fields_by-in-Disabling.ensures ∙ sym (ap fields_of c.in-Disabling.is)

pub returns-in-Step : goal.returns-in-Step
unfolding field1 field2 field3 field4 word_field
returns-in-Step c = c.fields_by-in-Step.ensures ∙ sym (ap fields_of c.in-Step.is)

pub returns-in-Marking : goal.returns-in-Marking
unfolding field1 field2 field3 field4 word_field
returns-in-Marking c = c.fields_by-in-Marking.ensures ∙ sym (ap fields_of c.in-Marking.is)

pub returns-in-End : goal.returns-in-End
unfolding field1 field2 field3 field4 word_field
returns-in-End c = c.fields_by-in-End.ensures ∙ sym (ap fields_of c.in-End.is)
