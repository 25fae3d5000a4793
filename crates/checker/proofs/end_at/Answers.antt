use Rattle.std.proofs.Common.{arith, eq-eqb, ne_eqb}
use Rattle.checker.specs.Examined.{examined_by}
use Rattle.checker.proofs.Loop.{after_end}
use Rattle.checker.proofs.end_at.Goals as goal

pub overflow_add-after : goal.overflow_add-after
overflow_add-after c = omega (arith, after_end c.args.at c.size_by.ensures)

pub returns-then-after-image : goal.returns-then-after-image
unfolding examined_by
returns-then-after-image c = simp (← after_end c.args.at c.size_by.ensures, eq-eqb _ _ c.if-after-image.true)

pub returns-else-after-image : goal.returns-else-after-image
unfolding examined_by
returns-else-after-image c = simp (← after_end c.args.at c.size_by.ensures, ne_eqb _ _ c.if-after-image.false)
