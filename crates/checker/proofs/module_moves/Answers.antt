use Rattle.std.proofs.Common.{lit≤, rules}
use Rattle.checker.proofs.Stretch.{begins_stretch, fields_by, fits_by, further_by, module_move_step}
use Rattle.checker.proofs.module_moves.Goals as goal

pub loop-n-init : goal.loop-n-init
loop-n-init c = search begins_stretch

pub fields_at-f-requires : goal.fields_at-f-requires
fields_at-f-requires c = search (fields_by, lit≤)

pub overflow_add-i : goal.overflow_add-i
overflow_add-i c = search (rules, fits_by)

pub loop-n-smaller : goal.loop-n-smaller
loop-n-smaller c = search further_by

pub loop-n-preserved : goal.loop-n-preserved
loop-n-preserved c = search module_move_step
