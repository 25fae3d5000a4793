use Rattle.records.specs.Kinds.{body_len}
use Rattle.places.specs.Places.{begin_of, end_of}
use Rattle.places.specs.Runs.{run_of}
use Rattle.places.proofs.Keys.{run_by_kind, run_keyed}
use Rattle.places.proofs.keyed_run.Goals as goal

pub returns-then-kind-eq19 : goal.returns-then-kind-eq19
unfolding run_of begin_of end_of body_len
returns-then-kind-eq19 c = search run_by_kind

pub returns-then-kind-eq21 : goal.returns-then-kind-eq21
unfolding run_of begin_of end_of body_len
returns-then-kind-eq21 c = search run_by_kind

pub returns-then-kind-eq22 : goal.returns-then-kind-eq22
unfolding run_of begin_of end_of body_len
returns-then-kind-eq22 c = search run_by_kind

pub returns-then-kind-eq23 : goal.returns-then-kind-eq23
unfolding run_of begin_of end_of body_len
returns-then-kind-eq23 c = search run_by_kind

pub returns : goal.returns
unfolding run_of begin_of end_of body_len
returns c = search run_keyed
