use borrow.Author.Rules.{rules}
use Rattle.count_lines.proofs.Length.{left_none, left_first, left_over, left_on, left_done}
use Rattle.count_lines.proofs.measure.Goals as goal

pub returns-then-room-last : goal.returns-then-room-last
returns-then-room-last c = search (left_none, rules)

pub loop-j-init : goal.loop-j-init
loop-j-init c = search (left_first, rules)

pub returns-then-left-n : goal.returns-then-left-n
returns-then-left-n c = search (left_over, rules)

pub loop-j-preserved : goal.loop-j-preserved
loop-j-preserved c = search (left_on, rules)

pub returns : goal.returns
returns c = search (left_done, rules)
