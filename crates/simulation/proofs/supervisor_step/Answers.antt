use mathlib.Core.Path.{ap, ◌∙◌}
use Rattle.simulation.specs.Play.{supervisor_stepped}
use Rattle.simulation.proofs.Playing.{lent, unlent}
use Rattle.simulation.proofs.supervisor_step.Goals as goal

pub returns-then-has_room : goal.returns-then-has_room
returns-then-has_room c = c.step_supervisor.ensures ∙ ap (supervisor_stepped _ _ _) (search lent)

pub returns-else-has_room : goal.returns-else-has_room
returns-else-has_room c = c.step_supervisor-else-has_room.ensures ∙ ap (supervisor_stepped _ _ _) (search unlent)
