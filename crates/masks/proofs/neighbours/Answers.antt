use mathlib.Core.Path.{refl}
use native.Mathlib.Omega.{arith}
use Rattle.bits.specs.Bit.{mask_of}
use Rattle.std.proofs.Math.Nat.{min-le_left, min-le_right}
use Rattle.masks.proofs.Events.{neighbour_bit, neighbour_rest, small_mask}
use borrow.Author.Rules.{rules}
use Rattle.masks.proofs.neighbours.Goals as goal

pub loop-v-init : goal.loop-v-init
unfolding mask_of
loop-v-init c = (search rules, refl)

pub overflow_cast-result : goal.overflow_cast-result
overflow_cast-result c = search small_mask

pub loop-v-preserved : goal.loop-v-preserved
loop-v-preserved c =
    let n = c.supervisors_of-n.result in
    let bit_is = c.is_neighbour.ensures _ _ _ c.own_events-own.ensures c.alphabet_of.ensures in (
      omega (arith, min-le_right n 32, c.min-v-end.ensures),
      neighbour_bit _ _ _ c.supervisors_of-n.ensures c.loop-v.invariant.1 (omega (arith, min-le_left n 32, c.min-v-end.ensures)) bit_is c.with_bit-mask.ensures,
    )

pub returns : goal.returns
returns c = neighbour_rest _ _ _ c.supervisors_of-n.ensures c.loop-v.invariant.1 c.loop-v.invariant.0 (omega (arith, c.min-v-end.ensures))
