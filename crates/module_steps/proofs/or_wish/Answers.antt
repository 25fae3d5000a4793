use Rattle.module_steps.proofs.Choosing.{sure_by, wish_by}
use Rattle.module_steps.proofs.or_wish.Goals as goal

pub returns-then-already : goal.returns-then-already
returns-then-already c = search sure_by

pub returns : goal.returns
returns c = search wish_by
