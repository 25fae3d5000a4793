use mathlib.Core.Path.{ap, sym}
use Rattle.walk.specs.Place.{place_after}
use Rattle.walk.proofs.place_after.Goals as goal

pub returns-in-Ok : goal.returns-in-Ok
unfolding place_after
returns-in-Ok c = sym (ap (place_after c.args.offset) c.in-Ok.is)

pub returns-in-Err : goal.returns-in-Err
unfolding place_after
returns-in-Err c = sym (ap (place_after c.args.offset) c.in-Err.is)
