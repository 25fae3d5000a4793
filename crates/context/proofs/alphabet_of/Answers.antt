use Rattle.std.proofs.Common.{◌≡◌, length, sym, arith, rules}
use lib.ListN.{get_or-eq_default}
use Rattle.context.proofs.alphabet_of.Goals as goal

pub returns-then-supervisor-lt32 : goal.returns-then-supervisor-lt32
returns-then-supervisor-lt32 c = simp c.wide-i.ensures

pub returns-else-supervisor-lt32 : goal.returns-else-supervisor-lt32
returns-else-supervisor-lt32 c =
    let h : length c.args.vs.alphabet ≡ 32 = search rules in
    sym (get_or-eq_default c.args.vs.alphabet 0 {n = c.args.supervisor} (omega (arith, c.if-supervisor-lt32.false)))
