use mathlib.Core.Path.{ap, ◌∙◌}
use native.Mathlib.Omega.{arith}
use borrow.Author.Tests.{lt-ltb, le-ltb}
use Rattle.modules.specs.Turn.{empty_own}
use Rattle.modules.specs.Fits.{own_fits, own_empty}
use Rattle.places.specs.Places.{records_by}
use Rattle.words.proofs.Lists.{any_slot}
use Rattle.device_states.proofs.own_slot_fits.Goals as goal

pub returns-then-m-n : goal.returns-then-m-n
returns-then-m-n c =
    let a = c.args in
    let at = any_slot _ empty_own a.owns.now _ a.m c.wide.ensures (omega (arith, c.requires, c.told-owns)) in
    simp (lt-ltb _ _ c.if-m-n.true) (c.fits.ensures ∙ ap (own_fits (records_by a.image.now a.places) a.m) at)

pub returns-else-m-n : goal.returns-else-m-n
returns-else-m-n c =
    let a = c.args in
    let at = any_slot _ empty_own a.owns.now _ a.m c.wide.ensures (omega (arith, c.requires, c.told-owns)) in
    simp (le-ltb _ _ c.if-m-n.false) (c.is_empty.ensures ∙ ap own_empty at)
