use native.Mathlib.Omega.{arith}
use Prim.Native.Nat.{◌+◌, ◌<◌}
use mathlib.Core.Path.{◌≡◌}
use lib.ListN.{length}
use Rattle.pieces.proofs.Taking.{held_all, held_byte, held_past}
use borrow.Author.Rules.{rules}
use Rattle.pieces.proofs.begun_on.Goals as goal

pub returns-then-piece-next : goal.returns-then-piece-next
returns-then-piece-next c =
    held_all _ _ _ _ _ _ _ _ _ c.requires.0 c.requires.1 c.fill-f.ensures (search rules)

pub records_on-requires : goal.records_on-requires
records_on-requires c =
    let l : c.past_begun-p.result.next ≡ c.fill-f.result.next + 1 = c.past_begun-p.ensures.next (search rules) in
    let m = c.fill-f.ensures.further in
    let n : c.fill-f.result.next < length c.args.piece.now = search rules in
    let h = c.requires.1 in
    (omega arith, omega arith)

pub returns-then-next-p : goal.returns-then-next-p
returns-then-next-p c =
    held_past _ _ _ _ _ _ _ _ _ c.requires.0 c.requires.1 c.fill-f.ensures _ _ _ (search rules) (search rules) c.past_begun-p.ensures c.records_on.ensures

pub returns : goal.returns
returns c =
    let n : c.fill-f.result.next < length c.args.piece.now = c.if-piece-next.false in
    held_byte _ _ _ _ _ _ _ _ _ c.requires.0 c.requires.1 c.fill-f.ensures _ n c.byte.ensures
