use mathlib.Core.Path.{◌≡◌, sym, ◌∙◌}
use lib.ListN.{length, get_or-eq_default}
use native.Mathlib.Omega.{arith}
use Rattle.permits.specs.Supervisor.{empty_supervisor}
use Rattle.words.proofs.Laws.{mapped}
use Rattle.words.proofs.Lists.{any_slot}
use Rattle.parties.proofs.supervisor_of.Goals as goal

pub returns-then-v-lt32 : goal.returns-then-v-lt32
returns-then-v-lt32 c =
    let a = c.args in
    let h : length a.p.supervisors ≡ 32 = search mapped in
    any_slot _ empty_supervisor a.p.supervisors _ a.v c.wide.ensures (omega (arith, c.if-v-lt32.true))

pub returns-else-v-lt32 : goal.returns-else-v-lt32
returns-else-v-lt32 c =
    let h : length c.args.p.supervisors ≡ 32 = search mapped in
    c.empty_supervisor.ensures ∙ sym (get_or-eq_default c.args.p.supervisors empty_supervisor {n = c.args.v} (omega (arith, c.if-v-lt32.false)))
