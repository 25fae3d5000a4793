use Rattle.texts.proofs.Texts.{number_small, number_longer}
use Rattle.texts.proofs.+push_number.Goals as goal

pub returns-then-n-lt10 : goal.returns-then-n-lt10
returns-then-n-lt10 t c = search number_small

pub returns-else-n-lt10 : goal.returns-else-n-lt10
returns-else-n-lt10 t c = search number_longer
