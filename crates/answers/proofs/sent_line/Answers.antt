use Rattle.simulation.proofs.Playing.{bytes_within, bytes_count, bytes_are}
use Rattle.answers.proofs.Printed.{sent_by}
use Rattle.answers.proofs.sent_line.Goals as goal

pub slice_bounds-bytes-end : goal.slice_bounds-bytes-end
slice_bounds-bytes-end c = search bytes_within

pub slice_bounds-sent_line-end : goal.slice_bounds-sent_line-end
slice_bounds-sent_line-end c = search bytes_count

pub returns : goal.returns
returns c = search (sent_by, bytes_are)
