use Rattle.places.specs.Places.{records_by}
use Rattle.noting.proofs.Fitting.{home_unnoted, home_noted, out_noted}
use borrow.Author.Rules.{rules}
use Rattle.noting.proofs.modules_fit.Goals as goal

pub returns-then-noted-eq0 : goal.returns-then-noted-eq0
returns-then-noted-eq0 c =
    let a = c.args in
    home_unnoted (records_by a.image.now a.places) _ _ _ (search rules) (search rules)

pub returns-else-noted-eq0 : goal.returns-else-noted-eq0
returns-else-noted-eq0 c =
    let a = c.args in
    home_noted (records_by a.image.now a.places) _ _ _ c.modules_near.ensures (search rules) c.noted_near.ensures (search rules)

pub returns-in-Out : goal.returns-in-Out
returns-in-Out c =
    let a = c.args in
    out_noted (records_by a.image.now a.places) _ _ _ c.modules_near-near.ensures (search rules) c.noted_near-in-Out.ensures (search rules) c.is_near.ensures
