use Rattle.masks.proofs.Near.{shifted_out}
use Rattle.masks.proofs.none_from.Goals as goal

pub returns-else-e-lt64 : goal.returns-else-e-lt64
returns-else-e-lt64 c = search shifted_out
