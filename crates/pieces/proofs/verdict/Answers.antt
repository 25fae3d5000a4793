use Rattle.pieces.proofs.Bytes.{too_many, still_open, all_ended, found_faulty}
use Rattle.pieces.proofs.verdict.Goals as goal

pub returns-then-k-gt-LIMIT : goal.returns-then-k-gt-LIMIT
returns-then-k-gt-LIMIT c = search too_many

pub returns-in-Open : goal.returns-in-Open
returns-in-Open c = search still_open

pub returns-in-Ended : goal.returns-in-Ended
returns-in-Ended c = search all_ended

pub returns-in-Faulty : goal.returns-in-Faulty
returns-in-Faulty c = search found_faulty
