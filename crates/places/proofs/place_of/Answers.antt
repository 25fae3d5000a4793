use Rattle.places.specs.Places.{numbered}
use Rattle.places.proofs.place_of.Goals as goal

pub returns-then-kind : goal.returns-then-kind
unfolding numbered
returns-then-kind c = simp c.if-kind.true c.wide.ensures

pub returns-else-kind : goal.returns-else-kind
unfolding numbered
returns-else-kind c = simp c.if-kind.false
