use Rattle.messages.proofs.Writing.{whole_put, permit_put}
use Rattle.messages.specs.Message.{message_bytes}
use Rattle.messages.proofs.put_message.Goals as goal

pub returns-in-Bid : goal.returns-in-Bid
unfolding message_bytes
returns-in-Bid c = search whole_put

pub returns-in-Permit : goal.returns-in-Permit
returns-in-Permit c = search permit_put

pub returns-in-Release : goal.returns-in-Release
unfolding message_bytes
returns-in-Release c = search whole_put
