use Rattle.example_states.proofs.Setting.{queued_out}
use Rattle.example_states.proofs.with_queued.Goals as goal

pub returns-then-place-lt8 : goal.returns-then-place-lt8
returns-then-place-lt8 c = cc

pub returns-else-place-lt8 : goal.returns-else-place-lt8
returns-else-place-lt8 c = search queued_out
