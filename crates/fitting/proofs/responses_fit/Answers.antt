use Rattle.std.proofs.Common.{rules, tests, ◌∙◌}
use Rattle.std.proofs.lemmas.Iterator.{YieldsList-from_slice, YieldsList-from_take}
use Rattle.std.proofs.lemmas.Iterator.Search.{all_from_yields_List}
use Rattle.places.specs.Places.{records_by}
use Rattle.plan.specs.Plan.{own_uncontrollable}
use Rattle.fitting.proofs.Every.{all_every}
use Rattle.fitting.proofs.responses_fit.Goals as goal

pub returns : goal.returns
returns c =
    let test = own_uncontrollable (records_by c.args.image.now c.args.places) c.args.m in
    all_from_yields_List test _ _ c.all.result c.all.ensures.ran (YieldsList-from_take c.args.n (YieldsList-from_slice c.args.q cc) cc) (λ x b q k. search (rules, tests))
    ∙ all_every _ _
