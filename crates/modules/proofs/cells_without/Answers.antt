use lib.ListN.{get_or, take}
use Rattle.std.proofs.Common.{rules}
use Rattle.modules.specs.Queue.{without}
use Rattle.modules.proofs.Calls.{made}
use Rattle.modules.proofs.Queue.{cells_are}
use Rattle.modules.proofs.cells_without.Goals as goal

pub returns : goal.returns
returns c =
    let a = c.args in
    cells_are a.q a.n a.k (search rules) c.wide-gap.ensures
    (made _ (λ i. get_or (without c.wide-gap.result (take a.n a.q)) i 0) _ (λ i y q k. search rules) _ 8 c.from_fn.ensures.items)
