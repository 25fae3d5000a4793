use mathlib.Core.Path.{refl}
use borrow.Author.Rules.{rules}
use Rattle.paper.proofs.Walked.{known_by, order_by, body_by, less_by, end_known, line_room, lined_on, lined_done}
use Rattle.paper.proofs.put_lines.Goals as goal

pub loop-k-init : goal.loop-k-init
loop-k-init c = record { small = λ j. (c.shared_slice_known-1.given j).fits; rest = refl; long = refl; room = search rules; last = end_known }

pub returns : goal.returns
returns c = search (lined_done, c.in_default.not-Ok)

pub overflow_sub-size : goal.overflow_sub-size
overflow_sub-size c = search (order_by, rules)

pub overflow_add-o : goal.overflow_add-o
overflow_add-o c = search (line_room, rules)

pub slice_bounds-put_line-start : goal.slice_bounds-put_line-start
slice_bounds-put_line-start c = search (line_room, rules)

pub slice_bounds-put_line-end : goal.slice_bounds-put_line-end
slice_bounds-put_line-end c = search (line_room, rules)

pub put_line-requires : goal.put_line-requires
put_line-requires c = search (known_by, body_by, line_room, rules)

pub overflow_add-o-in-Ok : goal.overflow_add-o-in-Ok
overflow_add-o-in-Ok c = search (line_room, rules)

pub loop-k-smaller : goal.loop-k-smaller
loop-k-smaller c = search less_by

pub loop-k-preserved : goal.loop-k-preserved
loop-k-preserved c = search lined_on
