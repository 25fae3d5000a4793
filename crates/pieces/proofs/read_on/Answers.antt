use Rattle.pieces.proofs.Taking.{on_held, none_begun, on_one}
use borrow.Author.Rules.{rules}
use Rattle.pieces.proofs.read_on.Goals as goal

pub returns-then-not-is_clear : goal.returns-then-not-is_clear
returns-then-not-is_clear c = on_held _ _ _ _ _ c.requires.0 c.begun_on.ensures

pub returns-then-from-w : goal.returns-then-from-w
returns-then-from-w c =
    none_begun _ _ _ _ _ (c.is_clear.ensures c.if-not-is_clear.false) c.requires.0 (search rules) c.records_on-w.ensures

pub returns : goal.returns
returns c =
    on_one _ _ _ _ c.requires.1 c.requires.2 c.byte.ensures
