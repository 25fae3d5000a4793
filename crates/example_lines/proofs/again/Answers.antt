use Rattle.example_lines.proofs.Image.{again_full, again_done}
use Rattle.example_lines.proofs.again.Goals as goal

pub returns-then-img-to : goal.returns-then-img-to
returns-then-img-to c = search again_full

pub returns : goal.returns
returns c = search again_done
