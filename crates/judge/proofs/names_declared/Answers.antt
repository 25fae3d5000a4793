use Rattle.judge.proofs.Arms.{names_arm}
use Rattle.judge.specs.Judge.{names_by}
use Rattle.judge.proofs.names_declared.Goals as goal

pub returns-in-Head : goal.returns-in-Head
unfolding names_by
returns-in-Head c = search names_arm

pub returns-in-Event : goal.returns-in-Event
unfolding names_by
returns-in-Event c = search names_arm

pub returns-in-Module : goal.returns-in-Module
unfolding names_by
returns-in-Module c = search names_arm

pub returns-in-ModuleMove : goal.returns-in-ModuleMove
unfolding names_by
returns-in-ModuleMove c = search names_arm

pub returns-in-Supervisor : goal.returns-in-Supervisor
unfolding names_by
returns-in-Supervisor c = names_arm c.args.c c.args.r c.in-Supervisor.is (simp c.within.ensures)

pub returns-in-SupervisorMove : goal.returns-in-SupervisorMove
unfolding names_by
returns-in-SupervisorMove c = search names_arm

pub returns-in-Disabling : goal.returns-in-Disabling
unfolding names_by
returns-in-Disabling c = search names_arm

pub returns-in-Step : goal.returns-in-Step
unfolding names_by
returns-in-Step c = names_arm c.args.c c.args.r c.in-Step.is (simp (c.event_known.ensures, c.operand_known.ensures))

pub returns-in-Marking : goal.returns-in-Marking
unfolding names_by
returns-in-Marking c = search names_arm

pub returns-in-End : goal.returns-in-End
unfolding names_by
returns-in-End c = search names_arm
