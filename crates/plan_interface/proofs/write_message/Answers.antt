use Rattle.plan_interface.proofs.Laws.{message_yes, message_no, message_none}
use Rattle.plan_interface.proofs.write_message.Goals as goal

pub returns-then-write : goal.returns-then-write
returns-then-write c = search message_yes

pub returns-else-write : goal.returns-else-write
returns-else-write c = search message_no

pub returns-in-None : goal.returns-in-None
returns-in-None c = search message_none
