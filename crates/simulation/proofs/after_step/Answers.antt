use mathlib.Core.Path.{◌≡◌}
use Rattle.permits.specs.declared.Stepped.TheVariants.{Turns, Bids, Waits}
use Rattle.simulation.proofs.Playing.{part_count, step_turned, step_bids, step_waits, step_refused_lem}
use Rattle.simulation.proofs.after_step.Goals as goal

pub slice_bounds-send_releases-end : goal.slice_bounds-send_releases-end
slice_bounds-send_releases-end c = search part_count

pub slice_bounds-send-end : goal.slice_bounds-send-end
slice_bounds-send-end c = search part_count

pub returns-in-Ok-Turns : goal.returns-in-Ok-Turns
returns-in-Ok-Turns c =
    let q : c.in-Ok-Turns.field-0 ≡ Turns _ c.in-Ok-Turns.n = rw c.in-Ok-Turns.is at c.in-Ok-Turns.field-0-is in
    search (step_turned, q)

pub returns-in-Ok-Bids : goal.returns-in-Ok-Bids
returns-in-Ok-Bids c =
    let q : c.in-Ok-Bids.field-0 ≡ Bids _ c.in-Ok-Bids.n = rw c.in-Ok-Bids.is at c.in-Ok-Bids.field-0-is in
    search (step_bids, q)

pub returns-in-Ok-Waits : goal.returns-in-Ok-Waits
returns-in-Ok-Waits c =
    let q : c.in-Ok-Waits.field-0 ≡ Waits = rw c.in-Ok-Waits.is at c.in-Ok-Waits.field-0-is in
    search (step_waits, q)

pub returns-in-Err : goal.returns-in-Err
returns-in-Err c = search step_refused_lem
