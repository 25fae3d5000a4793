use borrow.Author.Tests.{eq-eqb, ne_eqb}
use Rattle.crc.specs.Crc.{shifted}
use Rattle.crc.proofs.shift.Goals as goal

pub returns-then-c-eq1 : goal.returns-then-c-eq1
unfolding shifted
returns-then-c-eq1 c = simp (eq-eqb _ _ c.if-c-eq1.true)

pub returns-else-c-eq1 : goal.returns-else-c-eq1
unfolding shifted
returns-else-c-eq1 c = simp (ne_eqb _ _ c.if-c-eq1.false)
