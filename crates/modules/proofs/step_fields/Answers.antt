use Rattle.modules.proofs.Steps.{no_step, not_a_step, a_step}
use Rattle.modules.proofs.step_fields.Goals as goal

pub returns-in_default : goal.returns-in_default
returns-in_default c = search no_step

pub returns-in_default-r : goal.returns-in_default-r
returns-in_default-r c = not_a_step _ _ _ c.step.ensures c.in-Some.is c.in_default-r.not-Step

pub returns : goal.returns
returns c = search a_step
