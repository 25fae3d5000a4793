use Rattle.bits.proofs.Laws.{shl_one}
use Rattle.masks.proofs.with_bit.Goals as goal

pub returns-then-on : goal.returns-then-on
returns-then-on c = simp (c.if-on.true, shl_one 64 _ c.requires)
