use Rattle.own_bytes.proofs.Writing.{procedure_put}
use Rattle.own_bytes.proofs.put_procedure.Goals as goal

pub returns : goal.returns
returns c = search procedure_put
