use mathlib.Core.Path.{◌≡◌}
use Rattle.permits.specs.declared.Stepped.TheVariants.{Turns, Bids, Waits}
use Rattle.packing.specs.Answer.{stepped_answer}
use Rattle.packing.proofs.stepped.Goals as goal

pub returns-in-Ok-Turns : goal.returns-in-Ok-Turns
unfolding stepped_answer
returns-in-Ok-Turns c =
    let q : c.in-Ok-Turns.field-0 ≡ Turns c.in-Ok-Turns.t c.in-Ok-Turns.size = rw c.in-Ok-Turns.is at c.in-Ok-Turns.field-0-is in
    rw (c.in-Ok-Turns.is, q) c.turn.ensures

pub returns-in-Ok-Bids : goal.returns-in-Ok-Bids
unfolding stepped_answer
returns-in-Ok-Bids c =
    let q : c.in-Ok-Bids.field-0 ≡ Bids c.in-Ok-Bids.v c.in-Ok-Bids.size = rw c.in-Ok-Bids.is at c.in-Ok-Bids.field-0-is in
    rw (c.in-Ok-Bids.is, q) c.pack.ensures

pub returns-in-Ok-Waits : goal.returns-in-Ok-Waits
unfolding stepped_answer
returns-in-Ok-Waits c =
    let q : c.in-Ok-Waits.field-0 ≡ Waits = rw c.in-Ok-Waits.is at c.in-Ok-Waits.field-0-is in
    rw (c.in-Ok-Waits.is, q) c.pack-in-Ok-Waits.ensures

pub returns-in-Err : goal.returns-in-Err
unfolding stepped_answer
returns-in-Err c = cc
