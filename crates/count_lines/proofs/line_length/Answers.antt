use native.Mathlib.Omega.{arith}
use Rattle.count_lines.proofs.Length.{length_first, length_few, length_on, length_done}
use Rattle.count_lines.proofs.line_length.Goals as goal

pub loop-rest-init : goal.loop-rest-init
loop-rest-init c = search length_first

pub overflow_add-n : goal.overflow_add-n
overflow_add-n c = omega (arith, length_few _ _ _ c.loop-rest.invariant)

pub loop-rest-preserved : goal.loop-rest-preserved
loop-rest-preserved c = search length_on

pub returns : goal.returns
returns c = search length_done
