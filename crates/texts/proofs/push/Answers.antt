use borrow.Author.Tests.{lt-ltb, le-ltb}
use Rattle.texts.specs.Text.{pushed}
use Rattle.texts.proofs.push.Goals as goal

pub returns-then-at-lt328 : goal.returns-then-at-lt328
unfolding pushed
returns-then-at-lt328 c = simp (lt-ltb _ _ c.if-at-lt328.true)

pub returns-else-at-lt328 : goal.returns-else-at-lt328
unfolding pushed
returns-else-at-lt328 c = simp (le-ltb _ _ c.if-at-lt328.false)
