use Prim.Native.Nat.{◌+◌, ◌≤◌}
use lib.ListN.{length}
use Rattle.taking.proofs.Steps.{room_there, opened, counted}
use borrow.Author.Rules.{rules}
use Rattle.taking.proofs.in_place.Goals as goal

pub on_open-requires : goal.on_open-requires
on_open-requires c =
    opened c.args.piece.now c.args.state.now c.quad_at-taken.ensures c.has_room.ensures c.if-piece-has_room.false c.requires c.byte_at-stage.ensures c.if-stage-eq0.true

pub overflow_cast-piece : goal.overflow_cast-piece
overflow_cast-piece c =
    let l : c.quad_at-taken.result + length c.args.piece.now ≤ 49152 =
    room_there c.args.piece.now c.args.state.now c.quad_at-taken.ensures c.has_room.ensures c.if-piece-has_room.false in
    search rules

pub overflow_add-taken : goal.overflow_add-taken
overflow_add-taken c =
    let l : c.quad_at-taken.result + length c.args.piece.now ≤ 49152 =
    room_there c.args.piece.now c.args.state.now c.quad_at-taken.ensures c.has_room.ensures c.if-piece-has_room.false in
    search rules

pub returns-then-stage-eq2 : goal.returns-then-stage-eq2
returns-then-stage-eq2 c =
    counted c.args.piece.now c.args.state.now c.quad_at-taken.ensures c.has_room.ensures c.if-piece-has_room.false c.byte_at-stage.ensures c.if-stage-eq2.true c.put_progress.ensures
