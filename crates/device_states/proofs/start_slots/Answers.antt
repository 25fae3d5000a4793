use Rattle.std.proofs.Common.{rules}
use Rattle.places.specs.Places.{records_by}
use Rattle.modules.proofs.Calls.{made}
use Rattle.device_states.specs.States.{start_slot}
use Rattle.device_states.proofs.start_slots.Goals as goal

pub returns : goal.returns
returns c = made _ (start_slot (records_by c.args.image.now c.args.places)) _ (λ i y q k. search rules) _ 16 c.from_fn.ensures.items
