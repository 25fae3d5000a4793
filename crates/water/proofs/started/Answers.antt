use mathlib.Core.Path.{sym, ◌∙◌}
use Rattle.water.specs.Water.{water_of}
use Rattle.water.proofs.Laws.{target_by, zero_is}
use Rattle.water.proofs.started.Goals as goal

pub float_from_bits-t : goal.float_from_bits-t
float_from_bits-t c = search target_by

pub returns-then-target_ok : goal.returns-then-target_ok
unfolding water_of
returns-then-target_ok c = rw zero_is (simp (sym c.target_ok.ensures ∙ c.if-target_ok.true))

pub returns-else-target_ok : goal.returns-else-target_ok
unfolding water_of
returns-else-target_ok c = simp (sym c.target_ok.ensures ∙ c.if-target_ok.false) c.none.ensures
