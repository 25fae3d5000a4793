use Rattle.plan_interface.proofs.Laws.{message_whole, message_misshapen}
use Rattle.plan_interface.proofs.read_message.Goals as goal

pub returns-in-Some : goal.returns-in-Some
returns-in-Some c = search message_whole

pub returns-in-None : goal.returns-in-None
returns-in-None c = search message_misshapen
