use Rattle.std.proofs.Common.{le-ltb, lt-ltb}
use Rattle.context.specs.Context.{with_entry, with_bit}
use Rattle.context.proofs.with_supervisor.Goals as goal

pub returns-then-number-lt32 : goal.returns-then-number-lt32
unfolding with_entry with_bit
returns-then-number-lt32 c = simp (lt-ltb _ 32 c.if-number-lt32.true, c.wide-i.ensures, c.put.ensures)

pub returns-else-number-lt32 : goal.returns-else-number-lt32
unfolding with_entry with_bit
returns-else-number-lt32 c = simp (le-ltb _ _ c.if-number-lt32.false)
