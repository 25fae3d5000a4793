use Rattle.messages.specs.Message.{message_bytes}
use Rattle.words.specs.Word.{word_bytes}
use Rattle.messages.proofs.length_of.Goals as goal

pub returns-in-Bid : goal.returns-in-Bid
unfolding message_bytes
returns-in-Bid c = rw c.in-Bid.is

pub returns-in-Permit : goal.returns-in-Permit
unfolding message_bytes word_bytes
returns-in-Permit c = rw c.in-Permit.is

pub returns-in-Release : goal.returns-in-Release
unfolding message_bytes
returns-in-Release c = rw c.in-Release.is
