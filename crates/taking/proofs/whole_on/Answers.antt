use native.Mathlib.Omega.{arith}
use Rattle.roundtrip.specs.Fits.{Bytes}
use Rattle.taking.proofs.Steps.{missing_inside, missing_count, size_inside, size_count, whole_none, whole_state, whole_went}
use Rattle.taking.proofs.whole_on.Goals as goal

pub slice_bounds-put_bytes-end-2 : goal.slice_bounds-put_bytes-end-2
slice_bounds-put_bytes-end-2 c =
    missing_count c.args.piece.now c.args.state.now c.args.cut c.args.held c.args.taken c.requires.0 c.requires.1 c.requires.4 c.requires.2 c.requires.3
    c.wide-missing.ensures c.wide-size.ensures c.wide.ensures

pub slice_bounds-whole-end : goal.slice_bounds-whole-end
slice_bounds-whole-end c =
    size_inside c.args.piece.now c.args.state.now c.args.cut c.args.held c.args.taken c.requires.0 c.requires.1 c.requires.4 c.requires.2 c.requires.3
    c.wide-missing.ensures c.wide-size.ensures c.wide.ensures c.put_bytes.ensures

pub slice_bounds-pass-end : goal.slice_bounds-pass-end
slice_bounds-pass-end c =
    size_count c.args.piece.now c.args.state.now c.args.cut c.args.held c.args.taken c.requires.0 c.requires.1 c.requires.4 c.requires.2 c.requires.3
    c.wide-missing.ensures c.wide-size.ensures c.wide.ensures c.put_bytes.ensures

pub returns-then-next-eq0 : goal.returns-then-next-eq0
returns-then-next-eq0 c =
    let g : Bytes c.args.state.now = λ j. (c.slice_known-1.given j).fits in
    let f : Bytes c.args.piece.now = λ j. (c.shared_slice_known-1.given j).fits in
    whole_none c.args.piece.now c.args.state.now c.args.cut c.args.held c.args.taken c.requires.0 c.requires.1 c.requires.4 c.requires.2 c.requires.3
    c.wide-missing.ensures c.wide-size.ensures c.wide.ensures c.put_bytes.ensures g f c.pass-next.ensures c.if-next-eq0.true

pub records_on-requires : goal.records_on-requires
records_on-requires c =
    let g : Bytes c.args.state.now = λ j. (c.slice_known-1.given j).fits in
    let f : Bytes c.args.piece.now = λ j. (c.shared_slice_known-1.given j).fits in
    let s = whole_state c.args.piece.now c.args.state.now c.args.cut c.args.held c.args.taken c.requires.0 c.requires.1 c.requires.4 c.requires.2 c.requires.3
    c.wide-missing.ensures c.wide-size.ensures c.wide.ensures c.put_bytes.ensures g f c.pass-next.ensures in
    let l = missing_inside c.args.piece.now c.args.state.now c.args.cut c.args.held c.args.taken c.requires.0 c.requires.1 c.requires.4 c.requires.2 c.requires.3
    c.wide-missing.ensures c.wide-size.ensures c.wide.ensures in
    let h = c.requires.4 in
    (s.0, s.1, l, omega (arith, h, l))

pub returns : goal.returns
returns c =
    let g : Bytes c.args.state.now = λ j. (c.slice_known-1.given j).fits in
    let f : Bytes c.args.piece.now = λ j. (c.shared_slice_known-1.given j).fits in
    whole_went c.args.piece.now c.args.state.now c.args.cut c.args.held c.args.taken c.requires.0 c.requires.1 c.requires.4 c.requires.2 c.requires.3
    c.wide-missing.ensures c.wide-size.ensures c.wide.ensures c.put_bytes.ensures g f c.pass-next.ensures c.if-next-eq0.false c.records_on.ensures
