use Rattle.words.proofs.Laws.{quad_from}
use Rattle.words.proofs.quad_at.Goals as goal

pub returns : goal.returns
returns c = quad_from c.bytes_at.result c.args.s.now c.args.o c.from_be_bytes.ensures c.bytes_at.ensures
