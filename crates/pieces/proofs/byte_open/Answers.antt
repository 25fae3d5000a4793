use Rattle.pieces.proofs.Bytes.{byte_unknown, byte_whole, byte_more}
use Rattle.pieces.proofs.byte_open.Goals as goal

pub returns-then-n : goal.returns-then-n
returns-then-n c = search byte_unknown

pub returns-then-n-k : goal.returns-then-n-k
returns-then-n-k c = search byte_whole

pub returns : goal.returns
returns c = search byte_more
