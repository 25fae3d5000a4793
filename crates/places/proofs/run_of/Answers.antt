use Rattle.records.specs.Kinds.{body_len}
use Rattle.places.specs.Places.{begin_of, end_of, numbered}
use Rattle.places.specs.Runs.{run_of, is_move, keyed}
use Rattle.places.proofs.Keys.{run_by_kind, run_end, run_of_none}
use borrow.Author.Rules.{rules}
use Rattle.places.proofs.run_of.Goals as goal

pub numbered_run-requires : goal.numbered_run-requires
unfolding numbered
numbered_run-requires c = search rules

pub keyed_run-requires : goal.keyed_run-requires
unfolding keyed is_move
keyed_run-requires c = search rules

pub returns-then-kind-eq16 : goal.returns-then-kind-eq16
unfolding run_of begin_of end_of body_len
returns-then-kind-eq16 c = search run_by_kind

pub overflow_add-p : goal.overflow_add-p
unfolding body_len
overflow_add-p c = search rules

pub returns-then-kind-eq31 : goal.returns-then-kind-eq31
returns-then-kind-eq31 c = search run_end

pub returns : goal.returns
unfolding numbered keyed is_move
returns c = search run_of_none
