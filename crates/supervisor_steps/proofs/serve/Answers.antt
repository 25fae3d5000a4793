use Rattle.noting.proofs.Serving.{served_small}
use Rattle.supervisor_steps.proofs.Serving.{waits_by, serves_by}
use Rattle.supervisor_steps.proofs.serve.Goals as goal

pub returns-in_default : goal.returns-in_default
returns-in_default c = search waits_by

pub send-requires : goal.send-requires
send-requires c = search served_small

pub returns : goal.returns
returns c = search serves_by
