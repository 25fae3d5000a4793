use Rattle.judge.proofs.Arms.{index_arm}
use Rattle.judge.specs.Judge.{index_by}
use Rattle.judge.proofs.index_runs.Goals as goal

pub returns-in-Head : goal.returns-in-Head
unfolding index_by
returns-in-Head c = search index_arm

pub returns-in-Event : goal.returns-in-Event
unfolding index_by
returns-in-Event c = search index_arm

pub returns-in-Module : goal.returns-in-Module
unfolding index_by
returns-in-Module c = search index_arm

pub returns-in-ModuleMove : goal.returns-in-ModuleMove
unfolding index_by
returns-in-ModuleMove c = search index_arm

pub returns-in-Supervisor : goal.returns-in-Supervisor
unfolding index_by
returns-in-Supervisor c = search index_arm

pub returns-in-SupervisorMove : goal.returns-in-SupervisorMove
unfolding index_by
returns-in-SupervisorMove c = search index_arm

pub returns-in-Disabling : goal.returns-in-Disabling
unfolding index_by
returns-in-Disabling c = search index_arm

pub returns-in-Step : goal.returns-in-Step
unfolding index_by
returns-in-Step c = index_arm c.args.c c.args.r c.in-Step.is (simp c.steps_of.ensures)

pub returns-in-Marking : goal.returns-in-Marking
unfolding index_by
returns-in-Marking c = search index_arm

pub returns-in-End : goal.returns-in-End
unfolding index_by
returns-in-End c = search index_arm
