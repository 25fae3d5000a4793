use Rattle.bits.proofs.Laws.{within_is}
use Rattle.bits.proofs.within.Goals as goal

pub returns : goal.returns
returns c = within_is c.args.a c.args.b c.ranges.a.fits c.ranges.b.fits
