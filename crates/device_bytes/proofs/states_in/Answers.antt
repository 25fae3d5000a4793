use Rattle.std.proofs.Common.{rules}
use Rattle.modules.proofs.Calls.{made}
use Rattle.device_bytes.specs.Device.{state_byte}
use Rattle.device_bytes.proofs.states_in.Goals as goal

pub returns : goal.returns
unfolding state_byte
returns c = made _ (state_byte c.args.s.now) _ (λ i y q k. search rules) _ 32 c.from_fn.ensures.items
