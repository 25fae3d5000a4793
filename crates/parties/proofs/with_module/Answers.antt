use mathlib.Core.Path.{◌≡◌}
use lib.ListN.{length}
use native.Mathlib.Omega.{arith}
use Rattle.words.proofs.Laws.{mapped}
use lib.Seq.{set_out}
use Rattle.parties.proofs.with_module.Goals as goal

pub returns-then-m-lt16 : goal.returns-then-m-lt16
returns-then-m-lt16 c = simp c.wide.ensures

pub returns-else-m-lt16 : goal.returns-else-m-lt16
returns-else-m-lt16 c =
    let h : length c.args.p.modules ≡ 16 = search mapped in
    let s = set_out c.args.p.modules c.args.m c.args.x (omega (arith, c.if-m-lt16.false)) in
    simp s
