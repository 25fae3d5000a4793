use Rattle.std.proofs.Common.{rules}
use Rattle.permits.specs.Module.{module_start}
use Rattle.modules.proofs.Calls.{made}
use Rattle.parties.proofs.start_modules.Goals as goal

pub returns : goal.returns
returns c = made _ (λ m. (module_start c.args.image.now m).state) _ (λ i y q k. search rules) _ 16 c.from_fn.ensures.items
