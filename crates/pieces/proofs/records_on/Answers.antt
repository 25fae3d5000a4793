use Rattle.pieces.proofs.Taking.{ran_bounds, on_records}
use borrow.Author.Rules.{rules}
use Rattle.pieces.proofs.records_on.Goals as goal

pub fill-f-requires : goal.fill-f-requires
fill-f-requires c =
    let b = ran_bounds _ _ _ _ c.requires.0 c.requires.1 c.pass-p.ensures in
    b.1

pub overflow_sub-state : goal.overflow_sub-state
overflow_sub-state c =
    let b = ran_bounds _ _ _ _ c.requires.0 c.requires.1 c.pass-p.ensures in
    let l = b.0 in
    let m = c.fill-f.ensures.further in
    search rules

pub returns : goal.returns
returns c =
    on_records _ _ _ _ _ _ _ _ c.requires.0 c.requires.1 c.pass-p.ensures c.fill-f.ensures
