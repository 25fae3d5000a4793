use native.Mathlib.Omega.{arith}
use Rattle.releasing.proofs.Releasing.{begins, long_by, done_by, rest_by, room_by, on_by, off_by}
use Rattle.releasing.proofs.release_all.Goals as goal
use Rattle.releasing.proofs.release_all.Goals.{then-has, else-has}

pub loop-v-init : goal.loop-v-init
loop-v-init c = search begins

pub shape_of-buffer-then-mask_bits-v-eq0 : goal.shape_of-buffer-then-mask_bits-v-eq0
shape_of-buffer-then-mask_bits-v-eq0 c = search long_by

pub returns-then-mask_bits-v-eq0 : goal.returns-then-mask_bits-v-eq0
returns-then-mask_bits-v-eq0 c = search rest_by

pub overflow_add-at : goal.overflow_add-at
overflow_add-at c =
    omega (arith, room_by _ _ _ _ _ _ _ _ c.loop-v.invariant c.has.ensures c.loop-v-test.true c.if-has.true)

pub loop-v-preserved : goal.loop-v-preserved
loop-v-preserved c = elim c.if-has.branch [
  | then-has w ↦ on_by _ _ _ _ _ _ _ _ c.loop-v.invariant c.has.ensures c.loop-v-test.true w.if-has.true w.release_to.ensures w.buffer-is w.at-is
  | else-has w ↦ search off_by
]

pub shape_of-buffer : goal.shape_of-buffer
shape_of-buffer c = search long_by

pub returns : goal.returns
returns c = search done_by
