use Rattle.messages.proofs.Writing.{wrote_by, late_by, long_by}
use Rattle.messages.proofs.write.Goals as goal

pub returns-then-at-buffer : goal.returns-then-at-buffer
returns-then-at-buffer c = search wrote_by

pub returns-else-at-buffer : goal.returns-else-at-buffer
returns-else-at-buffer c = search late_by

pub returns-else-n-buffer : goal.returns-else-n-buffer
returns-else-n-buffer c = search long_by
