use borrow.Author.Tests.{lt-ltb, le-ltb}
use Rattle.record_tests.specs.Tests.{stands_at}
use Rattle.record_tests.proofs.stands.Goals as goal

pub returns-then-at-image : goal.returns-then-at-image
unfolding stands_at
returns-then-at-image c = simp (lt-ltb _ _ c.if-at-image.true)

pub returns-else-at-image : goal.returns-else-at-image
unfolding stands_at
returns-else-at-image c = simp (le-ltb _ _ c.if-at-image.false)
