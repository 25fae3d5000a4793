use Rattle.length_input.specs.Input.{length_of}
use Rattle.length_input.proofs.Bytes.{length_as}
use Rattle.length_input.proofs.length_of.Goals as goal

pub returns-in-Empty : goal.returns-in-Empty
unfolding length_of
returns-in-Empty c = length_as _ cc

pub returns-in-Digits : goal.returns-in-Digits
unfolding length_of
returns-in-Digits c = length_as _ cc

pub returns-in-Ended : goal.returns-in-Ended
unfolding length_of
returns-in-Ended c = length_as _ cc

pub returns-in-Misshapen : goal.returns-in-Misshapen
unfolding length_of
returns-in-Misshapen c = length_as _ cc
