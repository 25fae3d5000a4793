use Rattle.checker.proofs.InPlace.{supervisor_moves_in}
use Rattle.checker.proofs.past_supervisor_moves.Goals as goal

pub returns : goal.returns
returns c =
    supervisor_moves_in _ _ c.requires _ _ _ c.counts_at-n.ensures _ _ c.last_at-before.ensures _ c.put_last.ensures _ _ c.word_at-events.ensures c.word_at-known.ensures c.supervisor_moves-m.ensures
