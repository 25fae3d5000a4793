use mathlib.Core.Path.{refl}
use Rattle.pieces.proofs.Taking.{on_one, on_refused}
use borrow.Author.Rules.{rules}
use Rattle.pieces.proofs.onward.Goals as goal

pub returns-in-Ended : goal.returns-in-Ended
returns-in-Ended c =
    on_one _ _ _ _ c.requires.0 c.requires.1 c.byte.ensures

pub returns-in-Faulty : goal.returns-in-Faulty
returns-in-Faulty c =
    on_refused _ _ _ _ _ _ (search rules) c.requires.0 c.requires.1 refl c.between.ensures
