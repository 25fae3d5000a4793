use Rattle.roundtrip.specs.Fits.{Bytes}
use Rattle.taking.proofs.Steps.{no_state, state_there, all_taken, rest_taken}
use mathlib.Core.Path.{ap}
use mathlib.Core.Bool.{not}
use Rattle.taking.proofs.take.Goals as goal

pub returns-then-not-is_state : goal.returns-then-not-is_state
returns-then-not-is_state c = no_state _ _ c.is_state.ensures (ap not c.if-not-is_state.true)

pub in_place-at-requires : goal.in_place-at-requires
in_place-at-requires c =
    state_there c.args.state.now c.args.piece.now c.is_state.ensures (ap not c.if-not-is_state.false)

pub returns-then-at-piece : goal.returns-then-at-piece
returns-then-at-piece c =
    let gb : Bytes c.args.state.now = λ j. (c.slice_known-1.given j).fits in
    let gs : Bytes c.args.piece.now = λ j. (c.shared_slice_known-1.given j).fits in
    let ga : Bytes c.in_place-at.new.state = λ j. (c.slice_known-2-1.given j).fits in
    rest_taken c.args.state.now c.args.piece.now c.is_state.ensures (ap not c.if-not-is_state.false) ga c.in_place-at.ensures gb gs c.state_at-k.ensures c.take-after.ensures
    c.put_state.ensures

pub returns-else-at-piece : goal.returns-else-at-piece
returns-else-at-piece c =
    let ga : Bytes c.in_place-at.new.state = λ j. (c.slice_known-2-1.given j).fits in
    all_taken c.args.state.now c.args.piece.now c.is_state.ensures (ap not c.if-not-is_state.false) ga c.in_place-at.ensures c.if-at-piece.false
