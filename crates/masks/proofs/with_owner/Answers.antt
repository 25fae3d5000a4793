use Rattle.masks.proofs.Near.{owner_in, owner_past, owner_out}
use Rattle.masks.proofs.with_owner.Goals as goal

pub returns-then-m-lt16 : goal.returns-then-m-lt16
returns-then-m-lt16 c = λ o h. search owner_in

pub returns-else-m-lt16 : goal.returns-else-m-lt16
returns-else-m-lt16 c = λ o h. search owner_past

pub returns-else-has : goal.returns-else-has
returns-else-has c = λ o h. search owner_out
