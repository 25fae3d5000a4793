use mathlib.Core.Path.{sym, ap, ◌∙◌}
use lib.Ieee.{binary64}
use lib.Ieee.Bits.{of_bits-to_bits}
use denote.Floats.{passes}
use Rattle.litres.specs.Eighths.{finite_eighths}
use Rattle.litres.proofs.Patterns.{nan_none}
use Rattle.litres.proofs.in_eighths.Goals as goal

pub returns-then-is_nan : goal.returns-then-is_nan
returns-then-is_nan c = nan_none c.args.x (sym c.is_nan.ensures.value ∙ c.if-is_nan.true)

pub returns-else-is_nan : goal.returns-else-is_nan
returns-else-is_nan c = c.are_eighths.ensures ∙ ap finite_eighths (of_bits-to_bits binary64 c.args.x (passes _ c.well_formed.0.1))
