use Rattle.fields.proofs.Reading.{half_none}
use Rattle.fields.specs.Fields.{half_at}
use Rattle.fields.proofs.half_at.Goals as goal

pub returns-then-o-s : goal.returns-then-o-s
unfolding half_at
returns-then-o-s c = cc

pub returns-else-o-s : goal.returns-else-o-s
returns-else-o-s c = search half_none
