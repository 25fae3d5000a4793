use Rattle.device_bytes.proofs.Laws.{own_other, own_past, own_yes}
use Rattle.device_bytes.proofs.own_at.Goals as goal

pub returns-then-s-ne-DEVICE_SIZE : goal.returns-then-s-ne-DEVICE_SIZE
returns-then-s-ne-DEVICE_SIZE c = search own_other

pub returns-then-m-ge16 : goal.returns-then-m-ge16
returns-then-m-ge16 c = search own_past

pub returns : goal.returns
returns c = search own_yes
