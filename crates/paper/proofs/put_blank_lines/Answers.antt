use Rattle.paper.proofs.Put.{blanked_on, blanked_done}
use Rattle.paper.proofs.put_blank_lines.Goals as goal

pub loop-i-preserved : goal.loop-i-preserved
loop-i-preserved c = search blanked_on

pub returns : goal.returns
returns c = search blanked_done
