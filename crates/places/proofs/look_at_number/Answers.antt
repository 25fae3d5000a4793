use Rattle.places.proofs.Counting.{inside_by}
use Rattle.places.proofs.Numbered.{number_past, number_room, number_inside, number_it, number_other}
use borrow.Author.Rules.{rules}
use Rattle.places.proofs.look_at_number.Goals as goal

pub returns-then-run-n : goal.returns-then-run-n
returns-then-run-n c = search number_past

pub body_at-at-requires : goal.body_at-at-requires
body_at-at-requires c = (search inside_by, search rules)

pub bounds-image-at : goal.bounds-image-at
bounds-image-at c = search number_inside

pub numbered_record-requires : goal.numbered_record-requires
numbered_record-requires c = (search rules, search number_room)

pub returns-then-image-at : goal.returns-then-image-at
returns-then-image-at c = search number_it

pub returns-else-image-at : goal.returns-else-image-at
returns-else-image-at c = search number_other
