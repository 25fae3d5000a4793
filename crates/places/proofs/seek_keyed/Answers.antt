use Rattle.places.proofs.Counting.{inside_by}
use Rattle.places.proofs.Keys.{key_room, move_room}
use Rattle.places.proofs.Spots.{seek_past, seek_it, seek_none}
use borrow.Author.Rules.{rules}
use Rattle.places.proofs.seek_keyed.Goals as goal

pub returns-then-run-i : goal.returns-then-run-i
returns-then-run-i c = search seek_past

pub body_at-at-requires : goal.body_at-at-requires
body_at-at-requires c = (search inside_by, search rules)

pub key_in-requires : goal.key_in-requires
key_in-requires c = (search rules, search (key_room, inside_by), search (move_room, inside_by))

pub returns-then-same_key : goal.returns-then-same_key
returns-then-same_key c = search seek_it

pub returns-else-same_key : goal.returns-else-same_key
returns-else-same_key c = search seek_none
