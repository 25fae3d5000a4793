use Rattle.permits.specs.Names.{named}
use Rattle.permits.proofs.Naming.{named_arm}
use Rattle.permits.proofs.named.Goals as goal

pub returns-in-Bid : goal.returns-in-Bid
unfolding named
returns-in-Bid c = search named_arm

pub returns-in-Permit : goal.returns-in-Permit
unfolding named
returns-in-Permit c = search named_arm

pub returns-in-Release : goal.returns-in-Release
unfolding named
returns-in-Release c = named_arm _ _ c.in-Release.is (cc)
