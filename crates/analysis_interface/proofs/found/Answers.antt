use mathlib.Core.Path.{◌≡◌}
use Rattle.std.specs.Prelude.{Some, None}
use Rattle.analysis_interface.specs.Analysis.{blocking_answer}
use Rattle.analysis_interface.proofs.found.Goals as goal

pub returns-in-Ok-None : goal.returns-in-Ok-None
unfolding blocking_answer
returns-in-Ok-None c =
    let q : c.in-Ok-None.field-0 ≡ None = rw c.in-Ok-None.is at c.in-Ok-None.field-0-is in
    rw (c.in-Ok-None.is, q) c.pack.ensures

pub returns-in-Ok-Some : goal.returns-in-Ok-Some
unfolding blocking_answer
returns-in-Ok-Some c =
    let q : c.in-Ok-Some.field-0 ≡ Some c.in-Ok-Some.n = rw c.in-Ok-Some.is at c.in-Ok-Some.field-0-is in
    rw (c.in-Ok-Some.is, q) c.pack-in-Ok-Some.ensures

pub returns-in-Err : goal.returns-in-Err
unfolding blocking_answer
returns-in-Err c = cc
