use Rattle.party_bytes.proofs.Laws.{module_yes, module_no, module_long}
use Rattle.party_bytes.proofs.read_module.Goals as goal

pub module_at-requires : goal.module_at-requires
module_at-requires c = search module_long

pub returns-then-is_module : goal.returns-then-is_module
returns-then-is_module c = search module_yes

pub returns-else-is_module : goal.returns-else-is_module
returns-else-is_module c = search module_no
