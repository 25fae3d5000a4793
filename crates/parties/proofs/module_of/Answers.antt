use mathlib.Core.Path.{◌≡◌, sym, ◌∙◌}
use lib.ListN.{length, get_or-eq_default}
use native.Mathlib.Omega.{arith}
use Rattle.permits.specs.Module.{empty_module}
use Rattle.words.proofs.Laws.{mapped}
use Rattle.words.proofs.Lists.{any_slot}
use Rattle.parties.proofs.module_of.Goals as goal

pub returns-then-m-lt16 : goal.returns-then-m-lt16
returns-then-m-lt16 c =
    let a = c.args in
    let h : length a.p.modules ≡ 16 = search mapped in
    any_slot _ empty_module a.p.modules _ a.m c.wide.ensures (omega (arith, c.if-m-lt16.true))

pub returns-else-m-lt16 : goal.returns-else-m-lt16
returns-else-m-lt16 c =
    let h : length c.args.p.modules ≡ 16 = search mapped in
    c.empty_module.ensures ∙ sym (get_or-eq_default c.args.p.modules empty_module {n = c.args.m} (omega (arith, c.if-m-lt16.false)))
