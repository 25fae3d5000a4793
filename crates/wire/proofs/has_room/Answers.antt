use Rattle.wire.proofs.Laws.{room_left, no_room}
use Rattle.wire.proofs.has_room.Goals as goal

pub returns-then-count-le96 : goal.returns-then-count-le96
returns-then-count-le96 c = search room_left

pub returns-else-count-le96 : goal.returns-else-count-le96
returns-else-count-le96 c = search no_room
