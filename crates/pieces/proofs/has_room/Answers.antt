use Rattle.pieces.proofs.Taking.{room_past, room_left}
use Rattle.pieces.proofs.has_room.Goals as goal

pub returns-then-taken-gt-LIMIT : goal.returns-then-taken-gt-LIMIT
returns-then-taken-gt-LIMIT c = search room_past

pub returns : goal.returns
returns c = search room_left
