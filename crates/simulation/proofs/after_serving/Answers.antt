use mathlib.Core.Path.{◌≡◌}
use Rattle.permits.specs.declared.Served.TheVariants.{Sends, Waits}
use Rattle.simulation.proofs.Playing.{part_count, serving_sends, serving_waits, serving_refused}
use Rattle.simulation.proofs.after_serving.Goals as goal

pub slice_bounds-send-end : goal.slice_bounds-send-end
slice_bounds-send-end c = search part_count

pub returns-in-Ok-Sends : goal.returns-in-Ok-Sends
returns-in-Ok-Sends c =
    let q : c.in-Ok-Sends.field-0 ≡ Sends _ c.in-Ok-Sends.n = rw c.in-Ok-Sends.is at c.in-Ok-Sends.field-0-is in
    search (serving_sends, q)

pub returns-in-Ok-Waits : goal.returns-in-Ok-Waits
returns-in-Ok-Waits c =
    let q : c.in-Ok-Waits.field-0 ≡ Waits = rw c.in-Ok-Waits.is at c.in-Ok-Waits.field-0-is in
    search (serving_waits, q)

pub returns-in-Err : goal.returns-in-Err
returns-in-Err c = search serving_refused
