use Rattle.supervisor_steps.proofs.Serving.{step_refused_by, step_absent, step_unfit, step_fit}
use Rattle.supervisor_steps.proofs.step.Goals as goal

pub returns-then-fits : goal.returns-then-fits
returns-then-fits c = search step_fit

pub returns-else-fits : goal.returns-else-fits
returns-else-fits c = search step_unfit

pub returns-else-v-supervisors_of : goal.returns-else-v-supervisors_of
returns-else-v-supervisors_of c = search step_absent

pub returns-in-Err : goal.returns-in-Err
returns-in-Err c = search step_refused_by
