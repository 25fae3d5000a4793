use Rattle.std.proofs.Common.{rules}
use Rattle.permits.specs.Supervisor.{supervisor_start}
use Rattle.modules.proofs.Calls.{made}
use Rattle.parties.proofs.start_supervisors.Goals as goal

pub returns : goal.returns
returns c = made _ (λ v. (supervisor_start c.args.image.now v).state) _ (λ i y q k. search rules) _ 32 c.from_fn.ensures.items
