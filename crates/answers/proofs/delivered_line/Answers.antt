use Rattle.simulation.proofs.Playing.{bytes_within, bytes_count, bytes_are}
use Rattle.answers.proofs.Printed.{delivered_by}
use Rattle.answers.proofs.delivered_line.Goals as goal

pub slice_bounds-bytes-end : goal.slice_bounds-bytes-end
slice_bounds-bytes-end c = search bytes_within

pub slice_bounds-delivered_line-end : goal.slice_bounds-delivered_line-end
slice_bounds-delivered_line-end c = search bytes_count

pub returns : goal.returns
returns c = search (delivered_by, bytes_are)
