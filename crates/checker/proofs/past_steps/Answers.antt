use Rattle.std.proofs.Common.{refl}
use Rattle.checker.proofs.InPlace.{steps_in}
use Rattle.checker.proofs.past_steps.Goals as goal

pub returns : goal.returns
returns c =
    steps_in _ _ c.requires _ _ _ c.counts_at-n.ensures _ _ c.last_at-before.ensures _ _ _ c.put_last.ensures _ _ _ c.steps-s.auto.counts refl c.word_at-known.ensures c.word_at-all.ensures c.bytes_at-owner.ensures
    c.steps-s.ensures
