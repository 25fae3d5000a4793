use Rattle.releasing.proofs.Releasing.{room_all, released_none, released_all}
use borrow.Author.Rules.{rules}
use Rattle.releasing.proofs.release.Goals as goal

pub returns-then-buffer-n : goal.returns-then-buffer-n
returns-then-buffer-n c = search (released_none, rules)

pub release_all-requires : goal.release_all-requires
release_all-requires c = search (room_all, rules)

pub returns : goal.returns
returns c = search (released_all, rules)
