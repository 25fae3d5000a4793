use Rattle.supervisor_interface.proofs.Laws.{keep_yes, keep_no}
use Rattle.supervisor_interface.proofs.keep.Goals as goal

pub returns-then-is_accepted : goal.returns-then-is_accepted
returns-then-is_accepted c = search keep_yes

pub returns : goal.returns
returns c = search keep_no
