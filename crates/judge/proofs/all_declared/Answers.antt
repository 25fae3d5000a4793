use Rattle.judge.proofs.Arms.{all_arm}
use Rattle.judge.specs.Judge.{all_by}
use Rattle.judge.proofs.all_declared.Goals as goal

pub returns-in-Head : goal.returns-in-Head
unfolding all_by
returns-in-Head c = search all_arm

pub returns-in-Event : goal.returns-in-Event
unfolding all_by
returns-in-Event c = search all_arm

pub returns-in-Module : goal.returns-in-Module
unfolding all_by
returns-in-Module c = search all_arm

pub returns-in-ModuleMove : goal.returns-in-ModuleMove
unfolding all_by
returns-in-ModuleMove c = search all_arm

pub returns-in-Supervisor : goal.returns-in-Supervisor
unfolding all_by
returns-in-Supervisor c = search all_arm

pub returns-in-SupervisorMove : goal.returns-in-SupervisorMove
unfolding all_by
returns-in-SupervisorMove c = search all_arm

pub returns-in-Disabling : goal.returns-in-Disabling
unfolding all_by
returns-in-Disabling c = search all_arm

pub returns-in-Step : goal.returns-in-Step
unfolding all_by
returns-in-Step c = search all_arm

pub returns-in-Marking : goal.returns-in-Marking
unfolding all_by
returns-in-Marking c = search all_arm

pub returns-in-End : goal.returns-in-End
unfolding all_by
returns-in-End c = all_arm c.args.c c.args.r c.in-End.is (simp (c.has_below.ensures, c.has_below-in-End.ensures, c.has_below-in-End-2.ensures))
