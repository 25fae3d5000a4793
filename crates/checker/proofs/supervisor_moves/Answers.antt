use mathlib.Core.Path.{ap}
use mathlib.Core.Bool.{not}
use Rattle.checker.proofs.Stretch.{own_room}
use Rattle.std.proofs.Common.{lit≤, rules}
use Rattle.checker.proofs.Stretch.{begins_stretch, fields_by, fits_by, further_by, supervisor_move_step}
use Rattle.checker.proofs.Stretch.{own_at_lem}
use Rattle.checker.proofs.supervisor_moves.Goals as goal

pub loop-n-init : goal.loop-n-init
loop-n-init c = search begins_stretch

pub fields_at-f-requires : goal.fields_at-f-requires
fields_at-f-requires c = search (fields_by, lit≤)

pub word_in-own-requires : goal.word_in-own-requires
word_in-own-requires c = search own_room

pub overflow_add-i : goal.overflow_add-i
overflow_add-i c = search (rules, fits_by)

pub loop-n-smaller : goal.loop-n-smaller
loop-n-smaller c = search further_by

pub loop-n-preserved : goal.loop-n-preserved
loop-n-preserved c =
    supervisor_move_step _ _ _ _ _ _ c.fields_at-f.ensures c.wide-k.ensures _ _ _ _ _ _ c.below-numbers.ensures c.below-names.ensures c.size_by-size.ensures c.stands.ensures
    c.loop-n-test.true c.if-v-ge32.false (own_at_lem _ _ _ c.word_in-own.ensures c.wide-k.ensures c.if-v-ge32.false) c.move_named-named.ensures c.precedes.ensures (ap not c.if-not-precedes-named.false)
    c.loop-n.invariant
