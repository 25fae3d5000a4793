use borrow.Author.Tests.{lt-ltb, le-ltb}
use Rattle.device_states.specs.States.{start_slot}
use Rattle.device_states.proofs.start_slot.Goals as goal

pub returns-then-m-modules_of : goal.returns-then-m-modules_of
unfolding start_slot
returns-then-m-modules_of c = simp (← c.modules_of.ensures, lt-ltb _ _ c.if-m-modules_of.true, c.started.ensures)

pub returns-else-m-modules_of : goal.returns-else-m-modules_of
unfolding start_slot
returns-else-m-modules_of c = simp (← c.modules_of.ensures, le-ltb _ _ c.if-m-modules_of.false, c.empty.ensures)
