use Rattle.paper.proofs.Put.{word_column_by, no_word_column_by}
use Rattle.paper.proofs.put_word_column.Goals as goal

pub returns-then-has : goal.returns-then-has
returns-then-has c = search word_column_by

pub returns-else-has : goal.returns-else-has
returns-else-has c = search no_word_column_by
