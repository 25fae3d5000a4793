use Rattle.places.specs.Runs.{is_move}
use Rattle.places.proofs.Keys.{move_key, pair_key, third_in}
use borrow.Author.Rules.{rules}
use Rattle.places.proofs.key_in.Goals as goal

pub bounds-image-at-then-kind : goal.bounds-image-at-then-kind
unfolding is_move
bounds-image-at-then-kind c = search (rules, third_in)

pub returns-then-kind : goal.returns-then-kind
unfolding is_move
returns-then-kind c = search move_key

pub returns : goal.returns
unfolding is_move
returns c = search pair_key
