use Rattle.checker.proofs.InPlace.{disablings_in}
use Rattle.checker.proofs.past_disablings.Goals as goal

pub returns : goal.returns
returns c =
    disablings_in _ _ c.requires _ _ _ c.counts_at-n.ensures _ _ c.last_at-before.ensures _ c.put_last.ensures _ _ _ c.word_at-events.ensures c.word_at-all.ensures c.word_at-known.ensures c.disablings-d.ensures
