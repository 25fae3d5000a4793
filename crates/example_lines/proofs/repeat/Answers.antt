use Rattle.example_lines.proofs.Image.{going_first, going_again, going_none, going_done}
use Rattle.example_lines.proofs.repeat.Goals as goal

pub loop-init : goal.loop-init
loop-init c = search going_first

pub returns-then-from-to : goal.returns-then-from-to
returns-then-from-to c = search going_none

pub loop-preserved : goal.loop-preserved
loop-preserved c = search going_again

pub returns : goal.returns
returns c = search going_done
