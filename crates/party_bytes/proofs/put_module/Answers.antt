use Rattle.party_bytes.proofs.Laws.{module_put, module_size_lem, module_short}
use Rattle.party_bytes.proofs.put_module.Goals as goal

pub shape_of-s : goal.shape_of-s
shape_of-s c = search module_size_lem

pub returns-then-s-ge-MODULE_SIZE : goal.returns-then-s-ge-MODULE_SIZE
returns-then-s-ge-MODULE_SIZE c = search module_put

pub returns-else-s-ge-MODULE_SIZE : goal.returns-else-s-ge-MODULE_SIZE
returns-else-s-ge-MODULE_SIZE c = search module_short
