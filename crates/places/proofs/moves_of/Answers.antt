use native.Mathlib.Omega.{arith}
use mathlib.Core.Path.{refl}
use borrow.Author.Rules.{rules}
use Rattle.places.specs.Runs.{is_move, keyed}
use Rattle.places.proofs.Counting.{inside_by}
use Rattle.places.proofs.Keys.{key_room, move_room}
use Rattle.places.proofs.Scanning.{moves_begin, moves_stop, moves_hit, moves_miss, moves_end}
use Rattle.places.proofs.moves_of.Goals.{then-floor-rank, else-floor-rank}
use Rattle.places.proofs.moves_of.Goals as goal

pub keyed_run-run-requires : goal.keyed_run-run-requires
unfolding keyed is_move
keyed_run-run-requires c = refl

pub halve-i-requires : goal.halve-i-requires
unfolding keyed is_move
halve-i-requires c = (search inside_by, refl)

pub loop-i-init : goal.loop-i-init
loop-i-init c = search moves_begin

pub body_at-at-requires : goal.body_at-at-requires
body_at-at-requires c = (search inside_by, search rules)

pub key_in-key-requires : goal.key_in-key-requires
unfolding keyed is_move
key_in-key-requires c = (refl, search (key_room, inside_by), search (move_room, inside_by))

pub returns-then-most-rank : goal.returns-then-most-rank
returns-then-most-rank c =
    moves_stop _ _ _ _ c.loop-i.invariant c.loop-i-test.true c.body_at-at.ensures c.key_in-key.ensures
    (omega arith) (omega (arith, c.key_in-key.type_inv)) (omega (arith, c.key_in-key.type_inv)) (omega arith) (omega arith) c.rank-rank.ensures _ c.keyed_run-run.ensures
    c.halve-i.ensures.0 c.rank-floor.ensures c.if-most-rank.true

pub loop-i-preserved : goal.loop-i-preserved
loop-i-preserved c =
    elim c.if-floor-rank.branch [
      | then-floor-rank w ↦
          rw (w.floor-is, w.mask-is) (moves_hit _ _ _ _ c.loop-i.invariant c.loop-i-test.true c.body_at-at.ensures c.key_in-key.ensures
          (omega arith) (omega (arith, c.key_in-key.type_inv)) (omega (arith, c.key_in-key.type_inv)) (omega arith) (omega arith) c.rank-rank.ensures c.rank-floor.ensures
          c.if-most-rank.false w.if-floor-rank.true w.put-mask.ensures)
      | else-floor-rank w ↦
          rw (w.floor-is, w.mask-is) (moves_miss _ _ _ _ c.loop-i.invariant c.loop-i-test.true c.body_at-at.ensures c.key_in-key.ensures
          (omega arith) (omega (arith, c.key_in-key.type_inv)) (omega (arith, c.key_in-key.type_inv)) (omega arith) (omega arith) c.rank-rank.ensures w.if-floor-rank.false)
    ]

pub returns : goal.returns
returns c =
    moves_end _ _ _ _ _ c.loop-i.invariant c.keyed_run-run.ensures c.halve-i.ensures.0 c.loop-i-test.false
