use Rattle.plan.proofs.Answers.{step_none, step_it, step_out}
use Rattle.plan.proofs.step.Goals as goal

pub returns-in_default : goal.returns-in_default
returns-in_default c = search step_none

pub returns-then-in_range-f : goal.returns-then-in_range-f
returns-then-in_range-f c = search step_it

pub returns-else-in_range-f : goal.returns-else-in_range-f
returns-else-in_range-f c = search step_out
