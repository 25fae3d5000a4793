use mathlib.Core.Path.{refl}
use borrow.Author.Rules.{rules}
use Rattle.bits.specs.Bit.{all_below}
use Rattle.bits.proofs.Below.{all_done}
use Rattle.device_bytes.proofs.Laws.{slots_zero, slot_on, slot_fails}
use Rattle.device_bytes.proofs.slots_fit.Goals as goal

pub loop-m-init : goal.loop-m-init
unfolding all_below
loop-m-init c = (search rules, refl)

pub returns-then-zeros_from : goal.returns-then-zeros_from
returns-then-zeros_from c = search slots_zero

pub loop-m-preserved : goal.loop-m-preserved
loop-m-preserved c = (search rules, search slot_on)

pub returns-then-not-slot_fits : goal.returns-then-not-slot_fits
returns-then-not-slot_fits c = search slot_fails

pub returns : goal.returns
returns c = search all_done
