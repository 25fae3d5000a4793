use Rattle.length_input.specs.Input.{with_byte}
use Rattle.length_input.proofs.with_byte.Goals as goal

pub returns-in-Empty : goal.returns-in-Empty
unfolding with_byte
returns-in-Empty c = cc

pub returns-in-Digits : goal.returns-in-Digits
unfolding with_byte
returns-in-Digits c = cc

pub returns-in-Ended : goal.returns-in-Ended
unfolding with_byte
returns-in-Ended c = cc

pub returns-in-Misshapen : goal.returns-in-Misshapen
unfolding with_byte
returns-in-Misshapen c = cc
