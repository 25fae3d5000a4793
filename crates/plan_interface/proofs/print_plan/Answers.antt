use Rattle.plan_interface.proofs.Laws.{print_by_lem}
use Rattle.plan_interface.proofs.print_plan.Goals as goal

pub returns : goal.returns
returns c = search print_by_lem
