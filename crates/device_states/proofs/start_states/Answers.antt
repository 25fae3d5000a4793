use Rattle.std.proofs.Common.{rules}
use Rattle.places.specs.Places.{records_by}
use Rattle.modules.proofs.Calls.{made}
use Rattle.device_states.specs.States.{start_state}
use Rattle.device_states.proofs.start_states.Goals as goal

pub returns : goal.returns
returns c = made _ (start_state (records_by c.args.image.now c.args.places)) _ (λ i y q k. search rules) _ 32 c.from_fn.ensures.items
