use mathlib.Core.Path.{ap, ◌∙◌}
use Rattle.modules.specs.Procedure.{respond_of}
use Rattle.device.proofs.Calls.{reply_taken, reply_numbered}
use Rattle.device.proofs.respond_in.Goals as goal

pub returns-then-n-eq0 : goal.returns-then-n-eq0
returns-then-n-eq0 c =
    reply_taken _ _ _ _ c.number-n.ensures c.if-n-eq0.true
    (c.respond-r.ensures ∙ ap (respond_of _ _ _) c.own_of-own.ensures) c.replied.ensures

pub returns-else-n-eq0 : goal.returns-else-n-eq0
returns-else-n-eq0 c = search reply_numbered
