use Rattle.example_lines.proofs.Image.{push_done, push_full}
use Rattle.example_lines.proofs.push.Goals as goal

pub returns-then-n-img : goal.returns-then-n-img
returns-then-n-img c = search push_done

pub returns-else-n-img : goal.returns-else-n-img
returns-else-n-img c = search push_full
