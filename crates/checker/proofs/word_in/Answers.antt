use Rattle.words.specs.Word.{word_at}
use Rattle.checker.proofs.word_in.Goals as goal

pub returns : goal.returns
unfolding word_at
returns c = c.word_of.ensures
