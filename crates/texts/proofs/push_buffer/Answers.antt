use Rattle.texts.proofs.Texts.{buffer_none, buffer_some}
use Rattle.texts.proofs.push_buffer.Goals as goal

pub returns-then-s-eq0 : goal.returns-then-s-eq0
returns-then-s-eq0 c = search buffer_none

pub returns-else-s-eq0 : goal.returns-else-s-eq0
returns-else-s-eq0 c = search buffer_some
