use mathlib.Core.Path.{◌≡◌}
use Rattle.permits.specs.declared.Served.TheVariants.{Sends, Waits}
use Rattle.packing.specs.Answer.{served_answer}
use Rattle.packing.proofs.served.Goals as goal

pub returns-in-Ok-Sends : goal.returns-in-Ok-Sends
unfolding served_answer
returns-in-Ok-Sends c =
    let q : c.in-Ok-Sends.field-0 ≡ Sends c.in-Ok-Sends.m c.in-Ok-Sends.size = rw c.in-Ok-Sends.is at c.in-Ok-Sends.field-0-is in
    rw (c.in-Ok-Sends.is, q) c.pack.ensures

pub returns-in-Ok-Waits : goal.returns-in-Ok-Waits
unfolding served_answer
returns-in-Ok-Waits c =
    let q : c.in-Ok-Waits.field-0 ≡ Waits = rw c.in-Ok-Waits.is at c.in-Ok-Waits.field-0-is in
    rw (c.in-Ok-Waits.is, q) c.pack-in-Ok-Waits.ensures

pub returns-in-Err : goal.returns-in-Err
unfolding served_answer
returns-in-Err c = cc
