use mathlib.Core.Path.{◌≡◌, ap, ◌∙◌}
use Rattle.std.specs.Prelude.{Ok, Err}
use Rattle.permits.specs.declared.Stepped.TheVariants.{Turns, Bids, Waits}
use Rattle.answers.specs.AnswerLines.{step_event}
use Rattle.answers.proofs.Printed.{fired_elsewhere, fired_by}
use Rattle.answers.proofs.fired.Goals as goal

pub returns-in_default : goal.returns-in_default
returns-in_default c = search (fired_elsewhere, c.in_default.not-Module)

pub returns-in-Ok-Turns : goal.returns-in-Ok-Turns
unfolding step_event
returns-in-Ok-Turns c =
    let q : c.in-Ok-Turns.field-0 ≡ Turns c.in-Ok-Turns.event _ = rw c.in-Ok-Turns.is at c.in-Ok-Turns.field-0-is in
    fired_by _ c.in-Module.is (c.in-Ok-Turns.is ∙ ap Ok q)

pub returns-in-Ok-Bids : goal.returns-in-Ok-Bids
unfolding step_event
returns-in-Ok-Bids c =
    let q : c.in-Ok-Bids.field-0 ≡ Bids _ _ = rw c.in-Ok-Bids.is at c.in-Ok-Bids.field-0-is in
    fired_by _ c.in-Module.is (c.in-Ok-Bids.is ∙ ap Ok q)

pub returns-in-Ok-Waits : goal.returns-in-Ok-Waits
unfolding step_event
returns-in-Ok-Waits c =
    let q : c.in-Ok-Waits.field-0 ≡ Waits = rw c.in-Ok-Waits.is at c.in-Ok-Waits.field-0-is in
    fired_by _ c.in-Module.is (c.in-Ok-Waits.is ∙ ap Ok q)

pub returns-in-Err : goal.returns-in-Err
unfolding step_event
returns-in-Err c = fired_by _ c.in-Module.is c.in-Err.is
