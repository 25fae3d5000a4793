use Rattle.judge.specs.Judge.{names_by}
use Rattle.judge.proofs.disabling_named.Goals as goal

pub returns : goal.returns
unfolding names_by
returns c = cc
