use Rattle.reader.proofs.Reading.{drop_past}
use borrow.Author.Rules.{rules}
use Rattle.reader.proofs.within.Goals as goal

pub returns-else-b-s : goal.returns-else-b-s
returns-else-b-s c = (search rules, search drop_past)
