use Rattle.modules.proofs.Ticks.{ticked_idle, ticked_by, ticked_none, may_perform}
use Rattle.modules.proofs.ticked.Goals as goal

pub returns-then-not-p : goal.returns-then-not-p
returns-then-not-p c = search ticked_idle

pub performed-requires : goal.performed-requires
performed-requires c = search may_perform

pub returns-then-w : goal.returns-then-w
returns-then-w c = search ticked_by

pub returns-else-w : goal.returns-else-w
returns-else-w c = search ticked_none
