use Rattle.lines.proofs.Numbers.{number_byte, number_just, number_nothing}
use Rattle.lines.proofs.number_of.Goals as goal

pub overflow_cast-result : goal.overflow_cast-result
overflow_cast-result c = let w = number_byte c.args.s.now c.number_up_to.ensures (c.in_ok-n.was) in search w

pub returns-in_err-n : goal.returns-in_err-n
returns-in_err-n c = let w = number_nothing c.args.s.now c.number_up_to.ensures (c.in_err-n.was) in cc

pub returns : goal.returns
returns c = number_just c.args.s.now c.number_up_to.ensures (c.in_ok-n.was)
