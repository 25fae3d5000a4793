use mathlib.Core.Path.{sym, ap}
use Rattle.modules.specs.Procedure.{called_by}
use Rattle.modules.proofs.answer.Goals as goal

pub returns-in-Ok : goal.returns-in-Ok
unfolding called_by
returns-in-Ok c = sym (ap called_by c.in-Ok.is)

pub returns-in-Err : goal.returns-in-Err
unfolding called_by
returns-in-Err c = sym (ap called_by c.in-Err.is)
