use borrow.Author.Rules.{rules}
use Rattle.places.proofs.Counting.{inside_by}
use Rattle.places.proofs.Finding.{keyed_by}
use Rattle.places.proofs.keyed_place.Goals as goal

pub halve-first-requires : goal.halve-first-requires
halve-first-requires c = (search inside_by, search rules)

pub go_on-requires : goal.go_on-requires
go_on-requires c = (search inside_by, search rules, search rules)

pub returns : goal.returns
returns c = search keyed_by
