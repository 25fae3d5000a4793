use Rattle.noting.proofs.Notes.{rotated_by}
use borrow.Author.Rules.{rules}
use Rattle.noting.proofs.rotated.Goals as goal

pub returns : goal.returns
returns c = rotated_by _ (search rules) _ (search rules)
