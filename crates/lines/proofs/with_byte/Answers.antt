use borrow.Author.Tests.{lt-ltb, le-ltb}
use Rattle.lines.specs.Partial.{with_byte}
use Rattle.lines.proofs.with_byte.Goals as goal

pub returns-then-at-lt12 : goal.returns-then-at-lt12
unfolding with_byte
returns-then-at-lt12 c = simp (lt-ltb _ _ c.if-at-lt12.true)

pub returns-else-at-lt12 : goal.returns-else-at-lt12
unfolding with_byte
returns-else-at-lt12 c = simp (le-ltb _ _ c.if-at-lt12.false)
