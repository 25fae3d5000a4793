use borrow.Author.Tests.{lt-ltb, le-ltb}
use Rattle.answers.specs.AnswerLines.{with_number}
use Rattle.answers.proofs.with_number.Goals as goal

pub returns-then-at-lt1024 : goal.returns-then-at-lt1024
unfolding with_number
returns-then-at-lt1024 c = simp (lt-ltb _ _ c.if-at-lt1024.true)

pub returns-else-at-lt1024 : goal.returns-else-at-lt1024
unfolding with_number
returns-else-at-lt1024 c = simp (le-ltb _ _ c.if-at-lt1024.false)
