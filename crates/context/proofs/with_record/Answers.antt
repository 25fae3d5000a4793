use Rattle.context.specs.Context.{counts_after, events_after, modules_after, supervisors_after}
use Rattle.context.proofs.with_record.Goals as goal

pub returns-in-Head : goal.returns-in-Head
unfolding counts_after events_after modules_after supervisors_after
returns-in-Head c = simp (c.key_of-p.ensures, c.in-Head.is)

pub returns-in-Event : goal.returns-in-Event
unfolding counts_after events_after modules_after supervisors_after
returns-in-Event c = simp (c.key_of-p.ensures, c.with_event-after.ensures, c.in-Event.is)

pub returns-in-Module : goal.returns-in-Module
unfolding counts_after events_after modules_after supervisors_after
returns-in-Module c = simp (c.key_of-p.ensures, c.with_module-after.ensures, c.in-Module.is)

pub returns-in-ModuleMove : goal.returns-in-ModuleMove
unfolding counts_after events_after modules_after supervisors_after
returns-in-ModuleMove c = simp (c.key_of-p.ensures, c.in-ModuleMove.is)

pub returns-in-Supervisor : goal.returns-in-Supervisor
unfolding counts_after events_after modules_after supervisors_after
returns-in-Supervisor c = simp (c.key_of-p.ensures, c.with_supervisor-after.ensures, c.in-Supervisor.is)

pub returns-in-SupervisorMove : goal.returns-in-SupervisorMove
unfolding counts_after events_after modules_after supervisors_after
returns-in-SupervisorMove c = simp (c.key_of-p.ensures, c.in-SupervisorMove.is)

pub returns-in-Disabling : goal.returns-in-Disabling
unfolding counts_after events_after modules_after supervisors_after
returns-in-Disabling c = simp (c.key_of-p.ensures, c.in-Disabling.is)

pub returns-in-Step : goal.returns-in-Step
unfolding counts_after events_after modules_after supervisors_after
returns-in-Step c = simp (c.key_of-p.ensures, c.with_step-after.ensures, c.in-Step.is)

pub returns-in-Marking : goal.returns-in-Marking
unfolding counts_after events_after modules_after supervisors_after
returns-in-Marking c = simp (c.key_of-p.ensures, c.in-Marking.is)

pub returns-in-End : goal.returns-in-End
unfolding counts_after events_after modules_after supervisors_after
returns-in-End c = simp (c.key_of-p.ensures, c.in-End.is)
