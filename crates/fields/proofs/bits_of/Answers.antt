use Rattle.fields.proofs.Floats.{self_number, self_nan}
use Rattle.fields.proofs.bits_of.Goals as goal

pub float_to_bits-result : goal.float_to_bits-result
float_to_bits-result c = search self_number

pub returns-else-x : goal.returns-else-x
returns-else-x c = search self_nan
