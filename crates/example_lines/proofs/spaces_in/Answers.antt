use Rattle.std.proofs.Common.{zero-add, rules}
use Rattle.example_lines.proofs.Words.{spaces_again, spaces_done}
use Rattle.example_lines.proofs.spaces_in.Goals as goal

pub loop-b-init : goal.loop-b-init
loop-b-init c = (search rules, zero-add _)

pub loop-b-preserved : goal.loop-b-preserved
loop-b-preserved c = (search rules, search spaces_again)

pub returns : goal.returns
returns c = search spaces_done
