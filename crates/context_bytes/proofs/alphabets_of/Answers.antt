use Rattle.std.proofs.Common.{rules}
use Rattle.context_bytes.proofs.Made.{made}
use Rattle.context_bytes.proofs.Reading.{word_of, words_made}
use Rattle.context_bytes.proofs.alphabets_of.Goals as goal

pub returns : goal.returns
returns c =
    words_made c.args.s.now 32 (made _ (word_of c.args.s.now) _ (λ i y q k. search rules) _ 32 c.from_fn.ensures.items)
