use Rattle.paper.proofs.Put.{filled_first, filled_on, filled_done}
use Rattle.paper.proofs.word_column_of.Goals as goal

pub loop-i-init : goal.loop-i-init
loop-i-init c = filled_first _

pub loop-i-preserved : goal.loop-i-preserved
loop-i-preserved c = search filled_on

pub returns : goal.returns
returns c = search filled_done
