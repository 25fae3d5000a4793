use Rattle.places.specs.Places.{numbered}
use borrow.Author.Rules.{rules}
use Rattle.places.proofs.look_number.Goals as goal

pub look_at_number-requires : goal.look_at_number-requires
unfolding numbered
look_at_number-requires c = search rules

pub returns-then-kind-eq16 : goal.returns-then-kind-eq16
returns-then-kind-eq16 c = cc
