use Rattle.crc.specs.Crc.{crc_from}
use Rattle.frames.proofs.crc_of.Goals as goal

pub returns : goal.returns
unfolding crc_from
returns c = cc
