use mathlib.Core.Bool.{Bool, ◌&&◌}
use lib.Dec.{leb}
use mathlib.Core.Path.{sym, ap, ◌∙◌}
use Rattle.records.specs.Range.{in_range}
use Rattle.records.proofs.Arms.{range_arm}
use Rattle.records.proofs.in_range.Goals as goal

pub returns-in-Head : goal.returns-in-Head
unfolding in_range
returns-in-Head c = search range_arm

pub returns-in-Event : goal.returns-in-Event
unfolding in_range
returns-in-Event c = search range_arm

pub returns-in-Module : goal.returns-in-Module
unfolding in_range
returns-in-Module c = search range_arm

pub returns-in-ModuleMove : goal.returns-in-ModuleMove
unfolding in_range
returns-in-ModuleMove c = search range_arm

pub returns-in-Supervisor : goal.returns-in-Supervisor
unfolding in_range
returns-in-Supervisor c = search range_arm

pub returns-in-SupervisorMove : goal.returns-in-SupervisorMove
unfolding in_range
returns-in-SupervisorMove c = search range_arm

pub returns-in-Disabling : goal.returns-in-Disabling
unfolding in_range
returns-in-Disabling c = search range_arm

pub returns-in-Step : goal.returns-in-Step
unfolding in_range
returns-in-Step c = ap (λ (t : Bool). leb c.in-Step.index 63 && t) c.operand_in_range.ensures ∙ sym (ap in_range c.in-Step.is)

pub returns-in-Marking : goal.returns-in-Marking
unfolding in_range
returns-in-Marking c = search range_arm

pub returns-in-End : goal.returns-in-End
unfolding in_range
returns-in-End c = search range_arm
