use Rattle.plan_interface.specs.Messages.{message_kind}
use Rattle.plan_interface.proofs.kind_of.Goals as goal

pub returns-in-Bid : goal.returns-in-Bid
unfolding message_kind
returns-in-Bid c = cc

pub returns-in-Permit : goal.returns-in-Permit
unfolding message_kind
returns-in-Permit c = cc

pub returns-in-Release : goal.returns-in-Release
unfolding message_kind
returns-in-Release c = cc
