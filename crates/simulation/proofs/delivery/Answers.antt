use Rattle.simulation.proofs.Playing.{delivery_none, bytes_within, bytes_count, bytes_are, delivery_some}
use Rattle.simulation.proofs.delivery.Goals as goal

pub returns-in_default : goal.returns-in_default
returns-in_default c = search delivery_none

pub slice_bounds-bytes-end : goal.slice_bounds-bytes-end
slice_bounds-bytes-end c = search bytes_within

pub slice_bounds-to_party-end : goal.slice_bounds-to_party-end
slice_bounds-to_party-end c = search bytes_count

pub to_party-requires : goal.to_party-requires
to_party-requires c = search bytes_are

pub returns : goal.returns
returns c = search delivery_some
