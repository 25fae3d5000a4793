use Rattle.std.proofs.Common.{refl, rules}
use Rattle.checker.proofs.InPlace.{events_in}
use Rattle.checker.proofs.past_events.Goals as goal

pub returns : goal.returns
returns c =
    events_in _ _ c.requires _ _ _ c.counts_at-n.ensures _ _ c.last_at-before.ensures _ _ _ c.put_last.ensures c.events-e.result.known (search (rules, c.events-e.type_inv)) _ _ _ c.events-e.result.controllable (search (rules, c.events-e.type_inv.1.1.1)) _ c.events-e.auto.owner refl
    c.put_word.ensures c.put_word-2.ensures c.word_at-known.ensures c.word_at-controllable.ensures c.events-e.ensures
