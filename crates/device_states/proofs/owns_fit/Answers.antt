use Rattle.std.proofs.Common.{rules, refl}
use Rattle.places.specs.Places.{records_by}
use Rattle.modules.specs.Turn.{empty_own}
use Rattle.modules.proofs.Calls.{tested}
use Rattle.device_states.proofs.Slots.{slot_passes, own_passes}
use Rattle.device_states.proofs.owns_fit.Goals as goal

pub returns : goal.returns
returns c =
    let a = c.args in
    tested _ (slot_passes (own_passes (records_by a.image.now a.places) a.n) empty_own a.owns) _ 16 (λ i y q k. search rules) _ _ _ refl c.all.ensures.ran
