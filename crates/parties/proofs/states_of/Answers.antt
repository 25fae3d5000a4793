use Rattle.std.proofs.Common.{rules}
use Rattle.parties.specs.Parties.{supervisor_at}
use Rattle.modules.proofs.Calls.{made}
use Rattle.parties.proofs.states_of.Goals as goal

pub returns : goal.returns
returns c = made _ (λ v. (supervisor_at c.args.p v).state) _ (λ i y q k. search rules) _ 32 c.from_fn.ensures.items
