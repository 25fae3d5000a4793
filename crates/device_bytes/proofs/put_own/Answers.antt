use Rattle.device_bytes.proofs.Laws.{own_put, own_stays}
use Rattle.device_bytes.proofs.put_own.Goals as goal

pub returns-then-m-lt16 : goal.returns-then-m-lt16
returns-then-m-lt16 c = search own_put

pub returns-else-m-lt16 : goal.returns-else-m-lt16
returns-else-m-lt16 c = search own_stays
