use Rattle.std.proofs.Common.{refl, rules}
use Rattle.checker.proofs.InPlace.{modules_in}
use Rattle.checker.proofs.past_modules.Goals as goal

pub returns : goal.returns
returns c =
    modules_in _ _ c.requires _ _ _ c.counts_at-n.ensures _ _ c.last_at-before.ensures _ _ _ c.put_last.ensures _ (search (rules, c.modules-m.type_inv)) _ _ c.modules-m.auto.states refl c.put_word.ensures c.word_at-known.ensures
    c.modules-m.ensures
