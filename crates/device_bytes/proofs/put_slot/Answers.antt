use Rattle.own_bytes.proofs.Writing.{length_own}
use Rattle.modules.proofs.Queue.{eight}
use Rattle.device_bytes.proofs.Laws.{slot_put_lem}
use Rattle.device_bytes.proofs.put_slot.Goals as goal

pub returns : goal.returns
returns c = (search (slot_put_lem, eight), search (length_own, eight))
