use lib.Dec.{T}
use lib.Ieee.{fits, binary64}
use denote.Floats.{passes}
use Rattle.water.proofs.Laws.{zero_number, zero_signed, zero_other}
use Rattle.water.proofs.zero.Goals as goal

pub float_to_bits-result : goal.float_to_bits-result
float_to_bits-result c = zero_number c.args.x c.if-x.true

pub returns-then-x : goal.returns-then-x
returns-then-x c = zero_signed c.args.x (passes _ c.well_formed.0.1) c.if-x.true

pub returns-else-x : goal.returns-else-x
returns-else-x c = zero_other c.args.x c.if-x.false
