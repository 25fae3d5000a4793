use mathlib.Core.Path.{refl}
use native.Mathlib.Omega.{arith}
use Rattle.bits.specs.Bit.{mask_of}
use Rattle.std.proofs.Math.Nat.{min-le_left, min-le_right}
use Rattle.masks.proofs.Events.{own_bit, own_rest}
use borrow.Author.Rules.{rules}
use Rattle.masks.proofs.own_events.Goals as goal

pub loop-e-init : goal.loop-e-init
unfolding mask_of
loop-e-init c = (search rules, refl)

pub loop-e-preserved : goal.loop-e-preserved
loop-e-preserved c =
    let n = c.events_of-n.result in (
      omega (arith, min-le_right n 64, c.min-e-end.ensures),
      own_bit _ _ _ c.events_of-n.ensures c.loop-e.invariant.1 (omega (arith, min-le_left n 64, c.min-e-end.ensures)) c.owner_of.ensures c.with_bit-mask.ensures,
    )

pub returns : goal.returns
returns c = own_rest _ _ _ c.events_of-n.ensures c.loop-e.invariant.1 c.loop-e.invariant.0 (omega (arith, c.min-e-end.ensures))
