use mathlib.Core.Path.{◌∙◌}
use Rattle.supervisor_calls.proofs.done_if.Goals as goal

pub returns-then-due : goal.returns-then-due
returns-then-due c = simp c.if-due.true

pub returns-else-due : goal.returns-else-due
returns-else-due c = c.refused.ensures ∙ simp c.if-due.false
