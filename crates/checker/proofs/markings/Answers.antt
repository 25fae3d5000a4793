use Rattle.std.proofs.Common.{lit≤, rules}
use Rattle.checker.proofs.Stretch.{begins_stretch, marking_inside, marking_fits, fits_by, further_by, marking_step}
use Rattle.checker.proofs.markings.Goals as goal

pub loop-n-init : goal.loop-n-init
loop-n-init c = search begins_stretch

pub overflow_add-m : goal.overflow_add-m
overflow_add-m c = search (rules, marking_fits, lit≤)

pub bounds-image-i : goal.bounds-image-i
bounds-image-i c = search (marking_inside, lit≤)

pub overflow_add-st : goal.overflow_add-st
overflow_add-st c = search (rules, marking_fits, lit≤)

pub bounds-image-i-in-loop-n : goal.bounds-image-i-in-loop-n
bounds-image-i-in-loop-n c = search (marking_inside, lit≤)

pub overflow_add-i : goal.overflow_add-i
overflow_add-i c = search (rules, fits_by)

pub loop-n-smaller : goal.loop-n-smaller
loop-n-smaller c = search further_by

pub loop-n-preserved : goal.loop-n-preserved
loop-n-preserved c = search marking_step
