use borrow.Author.Rules.{rules}
use Rattle.device_bytes.proofs.Laws.{slots_on, slots_done}
use lib.ListN.{length}
use native.Mathlib.Omega.{arith}
use Prim.Native.Nat.{◌<◌}
use Rattle.words.proofs.Laws.{mapped}
use mathlib.Core.Path.{◌≡◌, refl}
use Rattle.device_bytes.proofs.put_slots.Goals as goal

pub loop-i-init : goal.loop-i-init
loop-i-init c = ((refl, omega arith), refl, omega arith)

pub loop-i-preserved : goal.loop-i-preserved
loop-i-preserved c =
    let at = c.args in
    let loop = c.loop-i in
    let h : loop.i < 16 = search rules in
    let n : length at.owns ≡ 16 = search mapped in
    (slots_on at.owns at.s.now loop.s loop.i _ n h loop.invariant.0 refl c.put_slot.ensures, search rules, omega arith)

pub returns : goal.returns
returns c =
    let at = c.args in
    let loop = c.loop-i in
    let m : length at.owns ≡ 16 = search mapped in
    let e : loop.i ≡ 16 = omega arith in
    slots_done at.owns at.s.now loop.s loop.i (omega arith) e loop.invariant.0
