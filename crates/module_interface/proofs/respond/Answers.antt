use Rattle.module_interface.proofs.Laws.{respond_by}
use Rattle.module_interface.proofs.respond.Goals as goal

pub returns : goal.returns
returns c = search respond_by
