use Rattle.pieces.proofs.Bytes.{twelve}
use Rattle.pieces.proofs.Taking.{is_zeros}
use borrow.Author.Rules.{rules}
use Rattle.pieces.proofs.is_clear.Goals as goal

pub returns : goal.returns
returns c = λ e. search (is_zeros, twelve, rules)
