use Rattle.party_bytes.proofs.Laws.{module_other, module_is}
use Rattle.party_bytes.proofs.is_module.Goals as goal

pub returns-then-s-ne-MODULE_SIZE : goal.returns-then-s-ne-MODULE_SIZE
returns-then-s-ne-MODULE_SIZE c = search module_other

pub returns : goal.returns
returns c = search module_is
