use borrow.Author.Rules.{rules}
use native.Mathlib.Omega.{arith}
use mathlib.Core.Path.{refl, ◌∙◌}
use Rattle.pieces.proofs.Bytes.{taken_all}
use Rattle.pieces.proofs.Taking.{no_bytes, no_room, has_room_lem}
use Rattle.pieces.proofs.take.Goals as goal

pub returns-then-piece-eq0 : goal.returns-then-piece-eq0
returns-then-piece-eq0 c = search no_bytes

pub returns-then-not-has_room : goal.returns-then-not-has_room
returns-then-not-has_room c = search no_room

pub loop-i-init : goal.loop-i-init
loop-i-init c = (refl, search has_room_lem)

pub onward-on-requires : goal.onward-on-requires
onward-on-requires c = (search rules, search rules)

pub loop-i-smaller : goal.loop-i-smaller
loop-i-smaller c =
    let e = c.onward-on.ensures in
    let a = e.1 in
    let b = e.0.inside in
    omega arith

pub loop-i-preserved : goal.loop-i-preserved
loop-i-preserved c =
    let e = c.onward-on.ensures in
    (e.0.same ∙ c.loop-i.invariant.0, e.0.room)

pub returns : goal.returns
returns c = search taken_all
