use Rattle.texts.specs.Ascii.{ascii}
use Rattle.example_states.proofs.Printed.{float_nan, float_bits}
use Rattle.example_states.proofs.push_float.Goals as goal

pub returns-then-is_nan : goal.returns-then-is_nan
unfolding ascii
returns-then-is_nan c = search float_nan

pub returns-else-is_nan : goal.returns-else-is_nan
returns-else-is_nan c = search float_bits
