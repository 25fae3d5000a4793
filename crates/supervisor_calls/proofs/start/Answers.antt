use Rattle.supervisor_calls.proofs.Starting.{start_done, start_absent, start_refused}
use Rattle.supervisor_calls.proofs.start.Goals as goal

pub returns-then-v-supervisors_of : goal.returns-then-v-supervisors_of
returns-then-v-supervisors_of c = search start_done

pub returns-else-v-supervisors_of : goal.returns-else-v-supervisors_of
returns-else-v-supervisors_of c = search start_absent

pub returns-in-Err : goal.returns-in-Err
returns-in-Err c = search start_refused
