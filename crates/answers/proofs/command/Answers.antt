use Rattle.answers.proofs.Printed.{command_none, command_is, command_not}
use Rattle.answers.proofs.command.Goals as goal

pub returns-in_err-e : goal.returns-in_err-e
returns-in_err-e c = let w = c.in_err-e.was in rw c.from_residual.ensures (search (command_none, w))

pub returns-then-controllable : goal.returns-then-controllable
returns-then-controllable c = let w = c.in_ok-e.was in search (command_is, w)

pub returns-else-controllable : goal.returns-else-controllable
returns-else-controllable c = let w = c.in_ok-e.was in search (command_not, w)
