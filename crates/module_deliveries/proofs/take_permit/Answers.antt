use Rattle.module_deliveries.proofs.Delivering.{permit_none, permit_small, permit_taken, permit_other}
use Rattle.module_deliveries.proofs.take_permit.Goals as goal

pub returns-in_default : goal.returns-in_default
returns-in_default c = search permit_none

pub hold-requires : goal.hold-requires
hold-requires c = search permit_small

pub returns-then-n-m : goal.returns-then-n-m
returns-then-n-m c = search permit_taken

pub returns-else-n-m : goal.returns-else-n-m
returns-else-n-m c = search permit_other
