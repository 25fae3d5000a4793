use Rattle.holding.proofs.Held.{fits_held}
use Rattle.module_steps.proofs.Stepping.{step_refused_by, step_absent, step_unfit, step_fit}
use borrow.Author.Rules.{rules}
use Rattle.module_steps.proofs.step.Goals as goal

pub act-requires : goal.act-requires
act-requires c = search (fits_held, rules)

pub returns-then-fits : goal.returns-then-fits
returns-then-fits c = search step_fit

pub returns-else-fits : goal.returns-else-fits
returns-else-fits c = search step_unfit

pub returns-else-m-modules_of : goal.returns-else-m-modules_of
returns-else-m-modules_of c = search step_absent

pub returns-in-Err : goal.returns-in-Err
returns-in-Err c = search step_refused_by
