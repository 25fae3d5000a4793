use Rattle.places.proofs.Spots.{look_missing, look_it}
use Rattle.places.proofs.look.Goals as goal

pub returns-then-at-eq0 : goal.returns-then-at-eq0
returns-then-at-eq0 c = search look_missing

pub returns-else-at-eq0 : goal.returns-else-at-eq0
returns-else-at-eq0 c = search look_it
