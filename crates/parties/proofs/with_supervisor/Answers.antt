use mathlib.Core.Path.{◌≡◌}
use lib.ListN.{length}
use native.Mathlib.Omega.{arith}
use Rattle.words.proofs.Laws.{mapped}
use lib.Seq.{set_out}
use Rattle.parties.proofs.with_supervisor.Goals as goal

pub returns-then-v-lt32 : goal.returns-then-v-lt32
returns-then-v-lt32 c = simp c.wide.ensures

pub returns-else-v-lt32 : goal.returns-else-v-lt32
returns-else-v-lt32 c =
    let h : length c.args.p.supervisors ≡ 32 = search mapped in
    let s = set_out c.args.p.supervisors c.args.v c.args.y (omega (arith, c.if-v-lt32.false)) in
    simp s
