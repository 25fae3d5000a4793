use Rattle.std.proofs.Common.{rules}
use Rattle.words.specs.Word.{word_bytes}
use Rattle.words.proofs.put_word.Goals as goal

pub returns : goal.returns
unfolding word_bytes
returns c = search rules
