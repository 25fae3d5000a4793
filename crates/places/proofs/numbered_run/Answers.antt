use Rattle.records.specs.Kinds.{body_len}
use Rattle.places.specs.Places.{begin_of, end_of}
use Rattle.places.specs.Runs.{run_of}
use Rattle.places.proofs.Keys.{run_by_kind, run_numbered}
use Rattle.places.proofs.numbered_run.Goals as goal

pub returns-then-kind-eq17 : goal.returns-then-kind-eq17
unfolding run_of begin_of end_of body_len
returns-then-kind-eq17 c = search run_by_kind

pub returns-then-kind-eq18 : goal.returns-then-kind-eq18
unfolding run_of begin_of end_of body_len
returns-then-kind-eq18 c = search run_by_kind

pub returns : goal.returns
unfolding run_of begin_of end_of body_len
returns c = search run_numbered
