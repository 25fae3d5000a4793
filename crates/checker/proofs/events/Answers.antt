use Rattle.std.proofs.Common.{lit≤, rules}
use Rattle.checker.specs.Stretch.{Passed, at_events}
use Rattle.checker.proofs.Stretch.{begins_stretch, fields_by, fits_by, further_by, event_step}
use Rattle.checker.proofs.Stretch.{index_in}
use Rattle.checker.proofs.events.Goals as goal

pub loop-n-init : goal.loop-n-init
loop-n-init c = (search begins_stretch, search rules)

pub fields_at-f-requires : goal.fields_at-f-requires
fields_at-f-requires c = search (fields_by, lit≤)

pub bounds-owner-k : goal.bounds-owner-k
bounds-owner-k c = search index_in

pub overflow_add-i : goal.overflow_add-i
overflow_add-i c =
    record { fits = fits_by _ _ _ _ c.stands.ensures c.loop-n-test.true (search rules) }

pub loop-n-smaller : goal.loop-n-smaller
loop-n-smaller c = search further_by

pub loop-n-preserved : goal.loop-n-preserved
unfolding Passed at_events
loop-n-preserved c = (search event_step, search rules)
