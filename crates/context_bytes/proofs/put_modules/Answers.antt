use Rattle.context_bytes.proofs.Writing.{modules_put, length_modules}
use Rattle.context_bytes.proofs.put_modules.Goals as goal

pub returns : goal.returns
returns c = (search modules_put, search length_modules)
