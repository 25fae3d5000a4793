use borrow.Author.Rules.{rules}
use Rattle.count_lines.proofs.Length.{measured_length, measured_room, printed_by, short_by}
use Rattle.count_lines.proofs.print.Goals as goal

pub put_text-requires : goal.put_text-requires
put_text-requires c = search (measured_length, measured_room, rules)

pub returns-in-Some : goal.returns-in-Some
returns-in-Some c = search (printed_by, rules)

pub returns-in-None : goal.returns-in-None
returns-in-None c = search (short_by, rules)
