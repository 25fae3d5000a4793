use Rattle.rewrite.proofs.Apart.{begins, range_by, room_by, less_by, on_by, done_by, long_by}
use Rattle.rewrite.proofs.put_records.Goals as goal

pub loop-r-init : goal.loop-r-init
loop-r-init c = begins _ _ (λ j. (c.shared_slice_known-1.given j).fits) c.requires.0 c.requires.1

pub shape_of-buf-in_default : goal.shape_of-buf-in_default
shape_of-buf-in_default c = search long_by

pub returns-in_default : goal.returns-in_default
returns-in_default c = search done_by

pub put_at-requires : goal.put_at-requires
put_at-requires c = search (range_by, room_by)

pub loop-r-smaller : goal.loop-r-smaller
loop-r-smaller c = search less_by

pub loop-r-preserved : goal.loop-r-preserved
loop-r-preserved c = search on_by
