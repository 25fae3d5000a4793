use Rattle.holding.proofs.Held.{lacks_by}
use Rattle.holding.proofs.lacks.Goals as goal

pub returns : goal.returns
returns c = lacks_by c.args.adjacent c.args.held c.ranges.adjacent.fits c.ranges.held.fits
