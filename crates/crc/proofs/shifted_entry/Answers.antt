use Rattle.std.proofs.Common.{ap}
use Rattle.crc.specs.Crc.{shifts}
use Rattle.crc.proofs.Folding.{shifts_on, shifts_done}
use Rattle.crc.proofs.shifted_entry.Goals as goal

pub loop-init : goal.loop-init
loop-init c = ap (shifts 8) c.from-c.ensures

pub loop-preserved : goal.loop-preserved
loop-preserved c = search shifts_on

pub returns : goal.returns
returns c = search shifts_done
