use Rattle.std.proofs.Common.{ℕ, get_or, sym, ap, zero-add}
use Rattle.words.proofs.Laws.{word_from}
use Rattle.words.proofs.word_of.Goals as goal

pub returns : goal.returns
returns c = word_from c.args.bytes c.args.bytes 0 c.from_be_bytes.ensures (λ i h. ap (λ (k : ℕ). get_or c.args.bytes k 0) (sym (zero-add i)))
