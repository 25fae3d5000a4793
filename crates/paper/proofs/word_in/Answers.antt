use Rattle.paper.proofs.Bodies.{word_wide, word_narrow}
use Rattle.paper.proofs.word_in.Goals as goal

pub returns-then-size-ge8 : goal.returns-then-size-ge8
returns-then-size-ge8 c = search word_wide

pub returns-else-size-ge8 : goal.returns-else-size-ge8
returns-else-size-ge8 c = search word_narrow
