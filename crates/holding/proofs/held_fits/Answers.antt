use mathlib.Core.Path.{refl}
use native.Mathlib.Omega.{arith}
use Rattle.bits.specs.Bit.{all_below}
use Rattle.holding.proofs.Held.{held_out, held_more, whole_more, held_in_lem, held_rest}
use Rattle.holding.proofs.held_fits.Goals as goal

pub loop-v-init : goal.loop-v-init
unfolding all_below
loop-v-init c = (omega arith, refl, refl)

pub returns-then-held_bits-v-eq0 : goal.returns-then-held_bits-v-eq0
returns-then-held_bits-v-eq0 c = search held_rest

pub returns-then-held_v-neighbour_v : goal.returns-then-held_v-neighbour_v
returns-then-held_v-neighbour_v c = search held_out

pub loop-v-preserved : goal.loop-v-preserved
loop-v-preserved c = (omega arith, search whole_more, search held_more)

pub returns : goal.returns
returns c = search held_in_lem
