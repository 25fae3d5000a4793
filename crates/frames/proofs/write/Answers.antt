use Rattle.frames.proofs.Calls.{not_written, no_room_4, no_room_behind, frame_written}
use Rattle.frames.proofs.write.Goals as goal

pub returns-then-number-ne0 : goal.returns-then-number-ne0
returns-then-number-ne0 c = search not_written

pub returns-then-buffer-lt4 : goal.returns-then-buffer-lt4
returns-then-buffer-lt4 c = search no_room_4

pub returns-then-buffer-n : goal.returns-then-buffer-n
returns-then-buffer-n c = search no_room_behind

pub returns : goal.returns
returns c = search frame_written
