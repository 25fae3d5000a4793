use Rattle.fields.specs.Fields.{bytes_from}
use Rattle.own_bytes.proofs.queue_of.Goals as goal

pub returns : goal.returns
unfolding bytes_from
returns c = cc
