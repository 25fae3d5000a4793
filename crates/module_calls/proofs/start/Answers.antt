use Rattle.module_calls.proofs.Calls.{start_done, start_absent, start_refused}
use Rattle.module_calls.proofs.start.Goals as goal

pub returns-then-m-modules_of : goal.returns-then-m-modules_of
returns-then-m-modules_of c = search start_done

pub returns-else-m-modules_of : goal.returns-else-m-modules_of
returns-else-m-modules_of c = search start_absent

pub returns-in-Err : goal.returns-in-Err
returns-in-Err c = search start_refused
