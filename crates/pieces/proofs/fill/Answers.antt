use borrow.Author.Rules.{rules}
use Rattle.pieces.proofs.Taking.{holds_begin, holds_on}
use Rattle.pieces.proofs.fill.Goals as goal

pub loop-i-init : goal.loop-i-init
loop-i-init c = search (holds_begin, rules)

pub loop-i-preserved : goal.loop-i-preserved
loop-i-preserved c = search holds_on
