use Rattle.places.specs.Runs.{is_move, keyed}
use borrow.Author.Rules.{rules}
use Rattle.places.proofs.seek.Goals as goal

pub seek_keyed-requires : goal.seek_keyed-requires
unfolding keyed is_move
seek_keyed-requires c = search rules

pub seek_other-requires : goal.seek_other-requires
unfolding keyed is_move
seek_other-requires c = search rules
