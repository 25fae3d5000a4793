use Rattle.example_lines.proofs.Image.{copy_first, copy_again, copy_done}
use Rattle.example_lines.proofs.copy_behind.Goals as goal

pub loop-j-init : goal.loop-j-init
loop-j-init c = search copy_first

pub loop-j-preserved : goal.loop-j-preserved
loop-j-preserved c = search copy_again

pub returns : goal.returns
returns c = search copy_done
