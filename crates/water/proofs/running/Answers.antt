use mathlib.Core.Path.{sym, ◌∙◌}
use Rattle.water.proofs.Laws.{target_by, running_by}
use Rattle.water.proofs.running.Goals as goal

pub float_from_bits-t : goal.float_from_bits-t
float_from_bits-t c = search target_by

pub returns-then-target_ok : goal.returns-then-target_ok
returns-then-target_ok c = search running_by

pub returns-else-target_ok : goal.returns-else-target_ok
returns-else-target_ok c = simp (sym c.target_ok.ensures ∙ c.if-target_ok.false)
