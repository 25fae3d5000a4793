use Rattle.device_bytes.proofs.Laws.{device_put_lem, device_short}
use Rattle.device_bytes.proofs.put_device.Goals as goal

pub returns-then-s-ge-DEVICE_SIZE : goal.returns-then-s-ge-DEVICE_SIZE
returns-then-s-ge-DEVICE_SIZE c = search device_put_lem

pub returns-else-s-ge-DEVICE_SIZE : goal.returns-else-s-ge-DEVICE_SIZE
returns-else-s-ge-DEVICE_SIZE c = search device_short
