use Rattle.checker.proofs.InPlace.{passed_by_value}
use Rattle.checker.proofs.past_by_value.Goals as goal

pub returns : goal.returns
returns c =
    passed_by_value _ _ _ c.context_at-c.ensures c.pass-p.ensures c.put_context.ensures
