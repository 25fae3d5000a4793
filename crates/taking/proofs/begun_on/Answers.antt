use native.Mathlib.Omega.{arith}
use Rattle.taking.specs.TakingIn.{Begun}
use Rattle.taking.proofs.Steps.{begun_by}
use Rattle.taking.proofs.begun_on.Goals as goal

pub overflow_sub-n : goal.overflow_sub-n
overflow_sub-n c =
    let b : Begun c.args.cut c.args.held = begun_by c.args.cut c.args.held c.body_len-n.ensures c.if-held-n.false in
    let l = b.within in
    let e = c.body_len-n.ensures in
    omega (arith, l, e)

pub held_on-requires : goal.held_on-requires
held_on-requires c =
    let b : Begun c.args.cut c.args.held = begun_by c.args.cut c.args.held c.body_len-n.ensures c.if-held-n.false in
    let e = c.body_len-n.ensures in
    let i = c.if-piece-wide.true in
    let m = c.wide.ensures in
    let l = b.within in
    (c.requires.0, b, omega (arith, e, i, m, l), c.requires.1)

pub whole_on-requires : goal.whole_on-requires
whole_on-requires c =
    let b : Begun c.args.cut c.args.held = begun_by c.args.cut c.args.held c.body_len-n.ensures c.if-held-n.false in
    let i = c.if-piece-wide.false in
    let m = c.wide.ensures in
    (c.requires.0, b, c.body_len-n.ensures, omega (arith, i, m), c.requires.1)
