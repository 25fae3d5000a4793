use Rattle.context_bytes.specs.Encoding.{key_bytes}
use Rattle.checker.proofs.put_last.Goals as goal

pub returns : goal.returns
unfolding key_bytes
returns c = c.put_bytes.ensures
