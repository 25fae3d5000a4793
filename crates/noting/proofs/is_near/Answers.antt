use Rattle.noting.proofs.Fitting.{by_near}
use Rattle.noting.proofs.is_near.Goals as goal

pub returns-then-m-lt16 : goal.returns-then-m-lt16
returns-then-m-lt16 c = search by_near
