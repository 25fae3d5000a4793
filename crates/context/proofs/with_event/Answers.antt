use Rattle.std.proofs.Common.{le-ltb, lt-ltb}
use Rattle.context.specs.Context.{with_entry, with_bit}
use Rattle.context.proofs.with_event.Goals as goal

pub returns-then-number-lt64 : goal.returns-then-number-lt64
unfolding with_entry with_bit
returns-then-number-lt64 c = simp (lt-ltb _ 64 c.if-number-lt64.true, c.wide-i.ensures, c.put.ensures, c.put-then-number-lt64.ensures)

pub returns-else-number-lt64 : goal.returns-else-number-lt64
unfolding with_entry with_bit
returns-else-number-lt64 c = simp (le-ltb _ _ c.if-number-lt64.false)
