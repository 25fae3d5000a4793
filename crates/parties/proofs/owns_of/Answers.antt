use Rattle.std.proofs.Common.{rules}
use Rattle.parties.specs.Parties.{module_at}
use Rattle.modules.proofs.Calls.{made}
use Rattle.parties.proofs.owns_of.Goals as goal

pub returns : goal.returns
returns c = made _ (λ m. (module_at c.args.p m).own) _ (λ i y q k. search rules) _ 16 c.from_fn.ensures.items
