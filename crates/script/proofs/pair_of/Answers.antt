use Rattle.script.proofs.Parts.{slice_count}
use Rattle.script.proofs.Lines.{pair_by, pair_none, pair_as}
use Rattle.script.proofs.pair_of.Goals as goal

pub slice_bounds-number_of-end : goal.slice_bounds-number_of-end
slice_bounds-number_of-end c = search slice_count

pub returns-then-k-s : goal.returns-then-k-s
returns-then-k-s c = pair_as _ (search pair_by)

pub returns-else-k-s : goal.returns-else-k-s
returns-else-k-s c = pair_as _ (search pair_none)
