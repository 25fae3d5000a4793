use Rattle.context_bytes.proofs.Reading.{context_padded}
use Rattle.context_bytes.proofs.context_short.Goals as goal

pub returns : goal.returns
returns c = search context_padded
