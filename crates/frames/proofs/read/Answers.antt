use Rattle.frames.proofs.Frame.{read_room}
use Rattle.frames.proofs.Calls.{not_read, no_room_message, message_read}
use Rattle.frames.proofs.read.Goals as goal

pub returns-then-number-ne0 : goal.returns-then-number-ne0
returns-then-number-ne0 c = search not_read

pub message_in-message-requires : goal.message_in-message-requires
message_in-message-requires c = search read_room

pub returns-then-buffer-n : goal.returns-then-buffer-n
returns-then-buffer-n c = search no_room_message

pub returns : goal.returns
returns c = search message_read
