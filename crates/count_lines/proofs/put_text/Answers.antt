use borrow.Author.Rules.{rules}
use Rattle.count_lines.proofs.Length.{last_within}
use Rattle.count_lines.proofs.Writing.{written_first, written_room, written_on, written_done}
use Rattle.count_lines.proofs.put_text.Goals as goal

pub put_line-at-requires : goal.put_line-at-requires
put_line-at-requires c = search (last_within, rules)

pub loop-j-init : goal.loop-j-init
loop-j-init c = search (written_first, rules)

pub put_line-at-requires-in-loop-j : goal.put_line-at-requires-in-loop-j
put_line-at-requires-in-loop-j c = search (written_room, rules)

pub loop-j-preserved : goal.loop-j-preserved
loop-j-preserved c = search (written_on, rules)

pub returns : goal.returns
returns c = search (written_done, rules)
