use mathlib.Core.Path.{◌≡◌, sym, ◌∙◌}
use lib.ListN.{length, get_or-eq_default}
use native.Mathlib.Omega.{arith}
use Rattle.modules.specs.Turn.{empty_own}
use Rattle.words.proofs.Laws.{mapped}
use Rattle.words.proofs.Lists.{any_slot}
use Rattle.device_states.proofs.own_of.Goals as goal

pub returns-then-m-lt16 : goal.returns-then-m-lt16
returns-then-m-lt16 c =
    let a = c.args in
    let h : length a.d.modules ≡ 16 = search mapped in
    any_slot _ empty_own a.d.modules _ a.m c.wide.ensures (omega (arith, c.if-m-lt16.true))

pub returns-else-m-lt16 : goal.returns-else-m-lt16
returns-else-m-lt16 c =
    let h : length c.args.d.modules ≡ 16 = search mapped in
    c.empty.ensures ∙ sym (get_or-eq_default c.args.d.modules empty_own {n = c.args.m} (omega (arith, c.if-m-lt16.false)))
