use Rattle.module_interface.proofs.Laws.{keep_step_yes, keep_step_no}
use Rattle.module_interface.proofs.keep_step.Goals as goal

pub returns-then-is_accepted : goal.returns-then-is_accepted
returns-then-is_accepted c = search keep_step_yes

pub returns : goal.returns
returns c = search keep_step_no
