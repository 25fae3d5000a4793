use Rattle.frames.proofs.Frame.{no_frame_by, damaged_by, room_4, intact_message}
use Rattle.frames.proofs.read_number.Goals as goal

pub returns-then-not-is_frame : goal.returns-then-not-is_frame
returns-then-not-is_frame c = search no_frame_by

pub returns-then-not-is_intact : goal.returns-then-not-is_intact
returns-then-not-is_intact c = search damaged_by

pub message_in-requires : goal.message_in-requires
message_in-requires c = search room_4

pub returns : goal.returns
returns c = search intact_message
