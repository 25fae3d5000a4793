use Rattle.module_deliveries.proofs.Delivering.{take_bid, take_permit, take_release}
use Rattle.module_deliveries.proofs.take.Goals as goal

pub returns-in-Bid : goal.returns-in-Bid
returns-in-Bid c = search take_bid

pub returns-in-Permit : goal.returns-in-Permit
returns-in-Permit c = search take_permit

pub returns-in-Release : goal.returns-in-Release
returns-in-Release c = search take_release
