use Rattle.modules.proofs.Queue.{eight, taken_out}
use Rattle.modules.proofs.without.Goals as goal

pub returns : goal.returns
returns c = search (taken_out, eight)
