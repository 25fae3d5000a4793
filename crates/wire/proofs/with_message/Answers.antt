use borrow.Author.Tests.{lt-ltb, le-ltb}
use Rattle.wire.specs.Wire.{with_message}
use Rattle.wire.proofs.with_message.Goals as goal

pub returns-then-at-lt96 : goal.returns-then-at-lt96
unfolding with_message
returns-then-at-lt96 c = simp (lt-ltb _ _ c.if-at-lt96.true)

pub returns-else-at-lt96 : goal.returns-else-at-lt96
unfolding with_message
returns-else-at-lt96 c = simp (le-ltb _ _ c.if-at-lt96.false)
