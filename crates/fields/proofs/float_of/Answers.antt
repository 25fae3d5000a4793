use mathlib.Core.Path.{sym, ◌∙◌}
use lib.Ieee.{of_bits, div}
use Rattle.fields.proofs.Floats.{bits_nan, bits_number}
use Rattle.fields.proofs.float_of.Goals as goal

pub float_from_bits-result : goal.float_from_bits-result
float_from_bits-result c = bits_number _ (sym c.is_nan.ensures ∙ c.if-is_nan.false)

pub returns-then-is_nan : goal.returns-then-is_nan
unfolding div of_bits
returns-then-is_nan c = bits_nan _ (sym c.is_nan.ensures ∙ c.if-is_nan.true)
