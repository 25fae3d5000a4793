use Rattle.fields.specs.Fields.{half_bytes}
use borrow.Author.Rules.{rules}
use Rattle.fields.proofs.put_half.Goals as goal

pub returns : goal.returns
unfolding half_bytes
returns c = search rules
