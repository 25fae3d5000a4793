use lib.Ieee.{of_bits, div}
use Rattle.example_states.proofs.Setting.{float_nan, float_bits}
use Rattle.example_states.proofs.float_in.Goals as goal

pub returns-then-letter_in-eq110 : goal.returns-then-letter_in-eq110
unfolding div of_bits
returns-then-letter_in-eq110 c = search float_nan

pub returns-else-letter_in-eq110 : goal.returns-else-letter_in-eq110
returns-else-letter_in-eq110 c = search float_bits
