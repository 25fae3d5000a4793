use Rattle.std.proofs.Common.{le-ltb, lt-ltb}
use Rattle.context.specs.Context.{with_entry, with_bit}
use Rattle.context.proofs.with_module.Goals as goal

pub returns-then-number-lt16 : goal.returns-then-number-lt16
unfolding with_entry with_bit
returns-then-number-lt16 c = simp (lt-ltb _ 16 c.if-number-lt16.true, c.wide-i.ensures, c.put.ensures)

pub returns-else-number-lt16 : goal.returns-else-number-lt16
unfolding with_entry with_bit
returns-else-number-lt16 c = simp (le-ltb _ _ c.if-number-lt16.false)
