use borrow.Author.Rules.{rules}
use Rattle.paper.proofs.Walked.{order_by, less_by, end_known, counted_on, counted_room, counted_done, counted_most}
use Rattle.paper.proofs.count_of.Goals as goal

pub loop-k-init : goal.loop-k-init
loop-k-init c = record { rest = search rules; within = search rules; inside = search rules; last = end_known }

pub returns : goal.returns
returns c = search (counted_done, counted_most, c.in_default.not-Ok)

pub overflow_sub-size : goal.overflow_sub-size
overflow_sub-size c = search (order_by, rules)

pub overflow_add-n : goal.overflow_add-n
overflow_add-n c = search (counted_room, rules)

pub loop-k-smaller : goal.loop-k-smaller
loop-k-smaller c = search less_by

pub loop-k-preserved : goal.loop-k-preserved
loop-k-preserved c = search counted_on
