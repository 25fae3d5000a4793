use Rattle.std.proofs.Common.{refl}
use Rattle.example_lines.proofs.Words.{number_other, number_again, number_done}
use Rattle.example_lines.proofs.number_of.Goals as goal

pub loop-b-init : goal.loop-b-init
loop-b-init c = refl

pub returns-then-base-d : goal.returns-then-base-d
returns-then-base-d c = search number_other

pub loop-b-preserved : goal.loop-b-preserved
loop-b-preserved c = search number_again

pub returns : goal.returns
returns c = search number_done
