use Rattle.words.proofs.Laws.{room, far, narrow}
use Rattle.own_bytes.proofs.Writing.{length_own}
use Rattle.own_bytes.proofs.put_own.Goals as goal

pub returns-then-o-s : goal.returns-then-o-s
returns-then-o-s c = search (room, length_own)

pub returns-else-o-s : goal.returns-else-o-s
returns-else-o-s c = search (far, length_own)

pub returns-else-s-ge-OWN_SIZE : goal.returns-else-s-ge-OWN_SIZE
returns-else-s-ge-OWN_SIZE c = search (narrow, length_own)
