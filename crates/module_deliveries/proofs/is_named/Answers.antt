use Rattle.module_deliveries.proofs.Delivering.{permit_asked, permit_named}
use Rattle.module_deliveries.proofs.is_named.Goals as goal

pub returns-then-owner-m : goal.returns-then-owner-m
returns-then-owner-m c = search permit_named

pub returns : goal.returns
returns c = search permit_asked
