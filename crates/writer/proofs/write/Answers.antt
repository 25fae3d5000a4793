use Rattle.writer.proofs.Writing.{short_by, room_by, wrote_by, out_by}
use Rattle.writer.proofs.write.Goals as goal

pub returns-then-buf-n : goal.returns-then-buf-n
returns-then-buf-n c = search short_by

pub put_record-requires : goal.put_record-requires
put_record-requires c = search room_by

pub returns-else-buf-n : goal.returns-else-buf-n
returns-else-buf-n c = search wrote_by

pub returns-else-in_range : goal.returns-else-in_range
returns-else-in_range c = search out_by
