use Prim.Native.Nat.{◌-◌, ◌≤◌}
use lib.ListN.{length}
use Rattle.pieces.proofs.Taking.{holds_begin}
use Rattle.taking.proofs.Steps.{tail_few, tail_held}
use borrow.Author.Rules.{rules}
use Rattle.taking.proofs.tail_at.Goals as goal

pub returns-then-left-eq0 : goal.returns-then-left-eq0
returns-then-left-eq0 c = holds_begin _ _ _ _ c.requires

pub returns-then-n-wide : goal.returns-then-n-wide
returns-then-n-wide c = holds_begin _ _ _ _ c.requires

pub overflow_cast-result : goal.overflow_cast-result
overflow_cast-result c =
    let few : length c.args.piece.now - c.args.from ≤ 11 = tail_few c.args.piece.now c.args.from c.body_len-n.ensures c.wide.ensures c.if-n-wide.false in
    search rules

pub returns : goal.returns
returns c =
    tail_held _ _ c.body_len-n.ensures c.wide.ensures c.if-n-wide.false c.requires (search rules) c.put_bytes.ensures
