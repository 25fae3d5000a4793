use mathlib.Core.Path.{refl}
use Rattle.bits.specs.Bit.{mask_of}
use Rattle.masks.proofs.Events.{one_bit, all_bits, commands_end}
use Rattle.masks.proofs.commands.Goals as goal

pub loop-e-init : goal.loop-e-init
unfolding mask_of
loop-e-init c = refl

pub returns-then-moves-e-eq0 : goal.returns-then-moves-e-eq0
returns-then-moves-e-eq0 c = search commands_end

pub loop-e-preserved : goal.loop-e-preserved
loop-e-preserved c =
    one_bit _ _ c.loop-e.invariant c.is_command.ensures c.with_bit-mask.ensures

pub returns : goal.returns
returns c = search all_bits
