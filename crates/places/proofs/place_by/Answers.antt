use Rattle.places.specs.Places.{place_by}
use Rattle.places.proofs.place_by.Goals as goal

pub returns-then-last-j : goal.returns-then-last-j
unfolding place_by
returns-then-last-j c = simp c.if-last-j.true

pub returns-else-last-j : goal.returns-else-last-j
unfolding place_by
returns-else-last-j c = simp c.if-last-j.false
