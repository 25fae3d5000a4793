use mathlib.Core.Path.{sym, ap, ◌∙◌}
use Rattle.records.specs.Key.{key_of}
use Rattle.records.proofs.key_of.Goals as goal

pub returns-in-Head : goal.returns-in-Head
unfolding key_of
returns-in-Head c = cc

pub returns-in-Event : goal.returns-in-Event
unfolding key_of
returns-in-Event c = c.key_by-in-Event.ensures ∙ sym (ap key_of c.in-Event.is)

pub returns-in-Module : goal.returns-in-Module
unfolding key_of
returns-in-Module c = c.key_by-in-Module.ensures ∙ sym (ap key_of c.in-Module.is)

pub returns-in-ModuleMove : goal.returns-in-ModuleMove
unfolding key_of
returns-in-ModuleMove c = c.key_by-in-ModuleMove.ensures ∙ sym (ap key_of c.in-ModuleMove.is)

pub returns-in-Supervisor : goal.returns-in-Supervisor
unfolding key_of
returns-in-Supervisor c = c.key_by-in-Supervisor.ensures ∙ sym (ap key_of c.in-Supervisor.is)

pub returns-in-SupervisorMove : goal.returns-in-SupervisorMove
unfolding key_of
returns-in-SupervisorMove c = c.key_by-in-SupervisorMove.ensures ∙ sym (ap key_of c.in-SupervisorMove.is)

pub returns-in-Disabling : goal.returns-in-Disabling
unfolding key_of
returns-in-Disabling c = c.key_by-in-Disabling.ensures ∙ sym (ap key_of c.in-Disabling.is)

pub returns-in-Step : goal.returns-in-Step
unfolding key_of
returns-in-Step c = c.key_by-in-Step.ensures ∙ sym (ap key_of c.in-Step.is)

pub returns-in-Marking : goal.returns-in-Marking
unfolding key_of
returns-in-Marking c = c.key_by-in-Marking.ensures ∙ sym (ap key_of c.in-Marking.is)

pub returns-in-End : goal.returns-in-End
unfolding key_of
returns-in-End c = cc
