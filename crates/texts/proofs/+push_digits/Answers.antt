use Rattle.texts.proofs.Texts.{digits_none, digits_longer}
use Rattle.texts.proofs.+push_digits.Goals as goal

pub returns-then-k-eq0 : goal.returns-then-k-eq0
returns-then-k-eq0 t c = search digits_none

pub returns-else-k-eq0 : goal.returns-else-k-eq0
returns-else-k-eq0 t c = search digits_longer
