use mathlib.Core.Path.{◌≡◌, sym, ap}
use mathlib.Core.List.{List}
use lib.ListN.{length}
use native.Mathlib.Omega.{arith}
use Rattle.modules.specs.declared.Own.{Own}
use Rattle.words.proofs.Laws.{mapped}
use lib.Seq.{set_out}
use Rattle.device_states.proofs.with_own.Goals as goal

pub returns-then-m-lt16 : goal.returns-then-m-lt16
returns-then-m-lt16 c = simp c.wide.ensures

pub returns-else-m-lt16 : goal.returns-else-m-lt16
returns-else-m-lt16 c =
    let h : length c.args.d.modules ≡ 16 = search mapped in
    ap (λ (l : List Own). record { modules = l; supervisors = c.args.d.supervisors }) (sym (set_out c.args.d.modules c.args.m c.args.own (omega (arith, c.if-m-lt16.false))))
