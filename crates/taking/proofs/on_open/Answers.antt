use native.Mathlib.Omega.{arith}
use Rattle.taking.proofs.States.{state_length}
use Rattle.taking.proofs.Steps.{none_held, holding_by}
use Rattle.taking.proofs.on_open.Goals as goal

pub slice_bounds-put_bytes-end-2 : goal.slice_bounds-put_bytes-end-2
slice_bounds-put_bytes-end-2 c =
    let l = state_length c.args.state.now c.requires.0 in
    omega (arith, l)

pub returns-then-are_zeros-held : goal.returns-then-are_zeros-held
returns-then-are_zeros-held c =
    none_held _ _ c.requires.0 c.requires.1 c.requires.2 c.byte_at-held.ensures c.put_bytes.ensures c.are_zeros.ensures c.if-are_zeros-held.true c.records_on.ensures

pub begun_on-requires : goal.begun_on-requires
begun_on-requires c =
    (holding_by c.args.piece.now c.args.state.now c.requires.0 c.requires.1 c.requires.2 c.byte_at-held.ensures c.put_bytes.ensures, c.requires.3)
