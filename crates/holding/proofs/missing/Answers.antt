use Rattle.holding.proofs.Held.{missing_by}
use borrow.Author.Rules.{rules}
use Rattle.holding.proofs.missing.Goals as goal

pub returns : goal.returns
returns c = missing_by c.args.adjacent c.args.held c.lowest.result (search rules) (search rules) c.lowest.ensures
