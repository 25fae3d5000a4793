use mathlib.Core.Path.{sym, ◌∙◌, subst}
use lib.Dec.{T}
use denote.Floats.{passes}
use Rattle.litres.proofs.Laws.{yes_arm, no_arm, not_nan}
use Rattle.litres.proofs.is_eighths.Goals as goal

-- `litres::is_eighths` meets its contract. Assumes nothing.
pub float_to_bits-result : goal.float_to_bits-result
float_to_bits-result c = not_nan c.args.x (subst T (sym c.if-in_eighths.true ∙ c.in_eighths.ensures) tt)

pub returns-then-in_eighths : goal.returns-then-in_eighths
returns-then-in_eighths c =
    yes_arm c.args.x (passes _ c.well_formed.0.1) (subst T (sym c.if-in_eighths.true ∙ c.in_eighths.ensures) tt)

pub returns-else-in_eighths : goal.returns-else-in_eighths
returns-else-in_eighths c = sym (no_arm c.args.x (sym c.in_eighths.ensures ∙ c.if-in_eighths.false))
