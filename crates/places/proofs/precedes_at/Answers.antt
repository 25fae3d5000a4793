use Rattle.places.specs.Runs.{before}
use Rattle.places.proofs.Keys.{key_room, move_room}
use borrow.Author.Rules.{rules}
use Rattle.places.proofs.precedes_at.Goals as goal

pub key_in-requires : goal.key_in-requires
key_in-requires c = (search rules, search key_room, search move_room)

pub returns : goal.returns
unfolding before
returns c = cc
