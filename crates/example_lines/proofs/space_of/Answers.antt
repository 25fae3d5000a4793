use Rattle.std.proofs.Common.{rules}
use Rattle.example_lines.proofs.Words.{space_one, space_none}
use Rattle.example_lines.proofs.space_of.Goals as goal

pub returns-then-b-eq32 : goal.returns-then-b-eq32
returns-then-b-eq32 c = (search space_one, search rules)

pub returns-else-b-eq32 : goal.returns-else-b-eq32
returns-else-b-eq32 c = (search space_none, search rules)
