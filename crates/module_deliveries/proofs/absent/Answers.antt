use Rattle.module_deliveries.proofs.Delivering.{absent_misshapen, absent_whole}
use Rattle.module_deliveries.proofs.absent.Goals as goal

pub returns-in_default : goal.returns-in_default
returns-in_default c = search absent_misshapen

pub returns : goal.returns
returns c = search absent_whole
