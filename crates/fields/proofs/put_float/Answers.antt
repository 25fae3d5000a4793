use Rattle.fields.proofs.Writing.{float_put}
use Rattle.fields.proofs.put_float.Goals as goal

pub returns : goal.returns
returns c = search float_put
