use Rattle.pieces.proofs.Bytes.{byte_past, byte_opens, byte_ended, byte_faulty}
use Rattle.pieces.proofs.byte.Goals as goal

pub returns-then-k-ge-LIMIT : goal.returns-then-k-ge-LIMIT
returns-then-k-ge-LIMIT c = search byte_past

pub returns-in-Open : goal.returns-in-Open
returns-in-Open c = search byte_opens

pub returns-in-Ended : goal.returns-in-Ended
returns-in-Ended c = search byte_ended

pub returns-in-Faulty : goal.returns-in-Faulty
returns-in-Faulty c = search byte_faulty
