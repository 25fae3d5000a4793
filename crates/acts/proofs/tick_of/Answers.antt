use Rattle.script.proofs.Parts.{slice_count}
use Rattle.acts.proofs.Lines.{tick_some, tick_none}
use Rattle.acts.proofs.tick_of.Goals as goal

pub slice_bounds-number_of-end : goal.slice_bounds-number_of-end
slice_bounds-number_of-end c = search slice_count

pub returns-then-k-s : goal.returns-then-k-s
returns-then-k-s c = search tick_some

pub returns-else-k-s : goal.returns-else-k-s
returns-else-k-s c = search tick_none
