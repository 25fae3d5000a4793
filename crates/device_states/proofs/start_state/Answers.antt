use borrow.Author.Tests.{lt-ltb, le-ltb}
use Rattle.device_states.specs.States.{start_state}
use Rattle.device_states.proofs.start_state.Goals as goal

pub returns-then-v-supervisors_of : goal.returns-then-v-supervisors_of
unfolding start_state
returns-then-v-supervisors_of c = simp (← c.supervisors_of.ensures, lt-ltb _ _ c.if-v-supervisors_of.true, c.supervisor_initial.ensures)

pub returns-else-v-supervisors_of : goal.returns-else-v-supervisors_of
unfolding start_state
returns-else-v-supervisors_of c = simp (← c.supervisors_of.ensures, le-ltb _ _ c.if-v-supervisors_of.false)
