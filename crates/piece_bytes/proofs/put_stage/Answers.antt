use Rattle.piece_bytes.proofs.Writing.{open_put, ended_put, faulty_put}
use Rattle.piece_bytes.proofs.put_stage.Goals as goal

pub returns-in-Open : goal.returns-in-Open
returns-in-Open c = search open_put

pub returns-in-Ended : goal.returns-in-Ended
returns-in-Ended c = search ended_put

pub returns-in-Faulty : goal.returns-in-Faulty
returns-in-Faulty c = search faulty_put
