use Rattle.std.proofs.Common.{le-ltb, lt-ltb}
use Rattle.context.specs.Context.{with_entry, with_bit}
use Rattle.context.proofs.with_step.Goals as goal

pub returns-then-event-lt64 : goal.returns-then-event-lt64
unfolding with_entry with_bit
returns-then-event-lt64 c = simp (lt-ltb _ 64 c.if-event-lt64.true, c.wide-i.ensures, c.wrapping_add_u8.ensures.value)

pub returns-else-event-lt64 : goal.returns-else-event-lt64
unfolding with_entry with_bit
returns-else-event-lt64 c = simp (le-ltb _ _ c.if-event-lt64.false)
