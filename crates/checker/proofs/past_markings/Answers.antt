use Rattle.checker.proofs.InPlace.{markings_in}
use Rattle.checker.proofs.past_markings.Goals as goal

pub returns : goal.returns
returns c =
    markings_in _ _ c.requires _ _ _ c.counts_at-n.ensures _ _ c.last_at-before.ensures _ c.put_last.ensures _ c.word_at-known.ensures c.markings-t.ensures
