use Rattle.pieces.proofs.Bytes.{record_faulty, record_ended, record_open}
use Rattle.pieces.proofs.record_taken.Goals as goal

pub returns-then-n-ne0 : goal.returns-then-n-ne0
returns-then-n-ne0 c = search record_faulty

pub returns-then-kind_of-eq31 : goal.returns-then-kind_of-eq31
returns-then-kind_of-eq31 c = search record_ended

pub returns : goal.returns
returns c = search record_open
