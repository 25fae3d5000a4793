use Rattle.roundtrip.specs.Fits.{Bytes}
use Rattle.taking.proofs.Steps.{passed_further, passed_inside, passed_state, records_went}
use borrow.Author.Rules.{rules}
use Rattle.taking.proofs.records_on.Goals as goal

pub tail_at-t-requires : goal.tail_at-t-requires
tail_at-t-requires c =
    passed_inside _ _ _ _ c.requires.2 c.requires.3 c.pass-next.ensures

pub overflow_sub-t : goal.overflow_sub-t
overflow_sub-t c =
    let m = passed_further _ _ _ _ c.requires.2 c.requires.3 c.pass-next.ensures in
    let n = c.tail_at-t.ensures.further in
    search rules

pub put_progress-requires : goal.put_progress-requires
put_progress-requires c =
    let g : Bytes c.args.state.now = λ j. (c.slice_known-1.given j).fits in
    let f : Bytes c.args.piece.now = λ j. (c.shared_slice_known-1.given j).fits in
    passed_state _ _ _ _ c.requires.2 c.requires.3 c.pass-next.ensures g f c.requires.0

pub returns : goal.returns
returns c =
    let g : Bytes c.args.state.now = λ j. (c.slice_known-1.given j).fits in
    let f : Bytes c.args.piece.now = λ j. (c.shared_slice_known-1.given j).fits in
    records_went _ _ _ _ c.requires.2 c.requires.3 c.pass-next.ensures g f c.requires.0 c.requires.1 c.tail_at-t.ensures c.put_progress.ensures
