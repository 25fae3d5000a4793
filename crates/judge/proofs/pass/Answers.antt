use mathlib.Core.Path.{refl}
use Rattle.reader.proofs.Reading.{less_by}
use Rattle.judge.proofs.Passing.{unread_by, faulty_by, end_by, on_by}
use Rattle.judge.proofs.pass.Goals.{then-judge-ne0-via-then-judge-ne0, then-judge-ne0-via-else-judge-ne0+then-kind_of-eq31}
use Rattle.judge.proofs.pass.Goals as goal

pub loop-r-init : goal.loop-r-init
loop-r-init c = refl

pub returns-in_default : goal.returns-in_default
returns-in_default c = search (unread_by, c.in_default.not-Ok)

pub returns-then-judge-ne0 : goal.returns-then-judge-ne0
returns-then-judge-ne0 c =
    elim c.then-judge-ne0.branch [
      | then-judge-ne0-via-then-judge-ne0 w ↦ search faulty_by
      | then-judge-ne0-via-else-judge-ne0+then-kind_of-eq31 w ↦ search end_by
    ]

pub loop-r-smaller : goal.loop-r-smaller
loop-r-smaller c = search less_by

pub loop-r-preserved : goal.loop-r-preserved
loop-r-preserved c = search on_by
