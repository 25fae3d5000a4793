use Rattle.frames.proofs.Frame.{addressed_by, no_address_by}
use Rattle.frames.proofs.write_number.Goals as goal

pub returns-then-is_address : goal.returns-then-is_address
returns-then-is_address c = search addressed_by

pub returns-else-is_address : goal.returns-else-is_address
returns-else-is_address c = search no_address_by
