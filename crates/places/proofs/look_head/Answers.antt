use Rattle.places.proofs.Spots.{head_other, head_missing, head_it}
use Rattle.places.proofs.look_head.Goals as goal

pub returns-then-first-gt0 : goal.returns-then-first-gt0
returns-then-first-gt0 c = search head_other

pub returns-then-run_of-eq0 : goal.returns-then-run_of-eq0
returns-then-run_of-eq0 c = search head_missing

pub returns : goal.returns
returns c = search head_it
