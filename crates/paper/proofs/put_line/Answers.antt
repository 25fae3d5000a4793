use lib.ListN.{length-set}
use Rattle.paper.proofs.Put.{line_by}
use borrow.Author.Rules.{rules}
use Rattle.paper.proofs.put_line.Goals as goal

pub shape_of-line : goal.shape_of-line
shape_of-line c = simp length-set (search rules)

pub returns : goal.returns
returns c = search line_by
