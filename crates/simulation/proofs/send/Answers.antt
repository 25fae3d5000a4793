use Rattle.simulation.proofs.Sending.{sent_whole, sent_none}
use Rattle.simulation.proofs.send.Goals as goal

pub returns-in-Some : goal.returns-in-Some
returns-in-Some c = search sent_whole

pub returns-in-None : goal.returns-in-None
returns-in-None c = search sent_none
