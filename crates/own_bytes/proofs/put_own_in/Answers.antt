use Rattle.own_bytes.proofs.Writing.{own_put}
use Rattle.own_bytes.proofs.put_own_in.Goals as goal

pub returns : goal.returns
returns c = search own_put
