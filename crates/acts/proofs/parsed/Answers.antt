use Prim.Native.Nat.{◌≤◌}
use mathlib.Core.Path.{◌≡◌, sym}
use native.Mathlib.Omega.{arith}
use lib.ListN.{length}
use lib.Seq.{length-take-le}
use Rattle.words.proofs.Laws.{mapped}
use Rattle.acts.proofs.Lines.{act_within, act_past}
use Rattle.acts.proofs.parsed.Goals as goal

pub slice_bounds-bytes-end : goal.slice_bounds-bytes-end
slice_bounds-bytes-end c = let e : length c.args.p.bytes ≡ 12 = search mapped in omega arith

pub slice_bounds-act_of-end : goal.slice_bounds-act_of-end
slice_bounds-act_of-end c =
    let e : length c.args.p.bytes ≡ 12 = search mapped in
    let h : c.args.p.length ≤ length c.args.p.bytes = omega arith in
    sym (length-take-le c.args.p.length c.args.p.bytes h)

pub returns-then-length-lt12 : goal.returns-then-length-lt12
returns-then-length-lt12 c = act_within _ c.if-length-lt12.true c.act_of.ensures

pub returns-else-length-lt12 : goal.returns-else-length-lt12
returns-else-length-lt12 c = act_past _ c.if-length-lt12.false
