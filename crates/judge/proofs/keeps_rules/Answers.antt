use Rattle.judge.proofs.Arms.{rules_arm}
use Rattle.judge.specs.Judge.{rules_by}
use Rattle.judge.proofs.keeps_rules.Goals as goal

pub returns-in-Head : goal.returns-in-Head
unfolding rules_by
returns-in-Head c = search rules_arm

pub returns-in-Event : goal.returns-in-Event
unfolding rules_by
returns-in-Event c = search rules_arm

pub returns-in-Module : goal.returns-in-Module
unfolding rules_by
returns-in-Module c = search rules_arm

pub returns-in-ModuleMove : goal.returns-in-ModuleMove
unfolding rules_by
returns-in-ModuleMove c = rules_arm c.args.c c.args.r c.in-ModuleMove.is (simp c.owner_of.ensures)

pub returns-in-Supervisor : goal.returns-in-Supervisor
unfolding rules_by
returns-in-Supervisor c = search rules_arm

pub returns-in-SupervisorMove : goal.returns-in-SupervisorMove
unfolding rules_by
returns-in-SupervisorMove c = rules_arm c.args.c c.args.r c.in-SupervisorMove.is (simp (c.has.ensures, c.alphabet_of.ensures))

pub returns-in-Disabling : goal.returns-in-Disabling
unfolding rules_by
returns-in-Disabling c = rules_arm c.args.c c.args.r c.in-Disabling.is (simp (c.within.ensures, c.alphabet_of-in-Disabling.ensures))

pub returns-in-Step : goal.returns-in-Step
unfolding rules_by
returns-in-Step c = rules_arm c.args.c c.args.r c.in-Step.is (simp (c.has-in-Step.ensures, c.respond_kept.ensures))

pub returns-in-Marking : goal.returns-in-Marking
unfolding rules_by
returns-in-Marking c = search rules_arm

pub returns-in-End : goal.returns-in-End
unfolding rules_by
returns-in-End c = search rules_arm
