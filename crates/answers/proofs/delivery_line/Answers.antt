use Rattle.answers.proofs.Printed.{line_done, line_refused}
use Rattle.answers.proofs.delivery_line.Goals as goal

pub returns-in-Ok : goal.returns-in-Ok
returns-in-Ok c = search line_done

pub returns-in-Err : goal.returns-in-Err
returns-in-Err c = search line_refused
