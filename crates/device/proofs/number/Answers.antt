use borrow.Author.Tests.{lt-ltb, le-ltb}
use Rattle.device.proofs.number.Goals as goal

pub returns-then-m-modules_of : goal.returns-then-m-modules_of
returns-then-m-modules_of c = simp (← c.fits.ensures, c.if-fits.true, ← c.modules_of.ensures, lt-ltb _ _ c.if-m-modules_of.true)

pub returns-else-m-modules_of : goal.returns-else-m-modules_of
returns-else-m-modules_of c = simp (← c.fits.ensures, c.if-fits.true, ← c.modules_of.ensures, le-ltb _ _ c.if-m-modules_of.false)

pub returns-else-fits : goal.returns-else-fits
returns-else-fits c = simp (← c.fits.ensures, c.if-fits.false)
