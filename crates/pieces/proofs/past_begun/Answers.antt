use Rattle.pieces.proofs.Taking.{not_past, past_begun}
use Rattle.pieces.proofs.past_begun.Goals as goal

pub returns-then-n-held : goal.returns-then-n-held
returns-then-n-held c = not_past _ _ _ _ _

pub returns-then-judge-kind_of : goal.returns-then-judge-kind_of
returns-then-judge-kind_of c = not_past _ _ _ _ _

pub returns : goal.returns
returns c = search past_begun
