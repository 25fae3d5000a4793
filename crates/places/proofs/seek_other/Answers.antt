use Rattle.places.proofs.Counting.{inside_by}
use Rattle.places.proofs.Spots.{other_past, other_it, other_none}
use borrow.Author.Rules.{rules}
use Rattle.places.proofs.seek_other.Goals as goal

pub returns-then-run-i : goal.returns-then-run-i
returns-then-run-i c = search other_past

pub body_at-at-requires : goal.body_at-at-requires
body_at-at-requires c = (search inside_by, search rules)

pub returns-then-same_key : goal.returns-then-same_key
returns-then-same_key c = search other_it

pub returns-else-same_key : goal.returns-else-same_key
returns-else-same_key c = search other_none
