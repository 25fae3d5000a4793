use mathlib.Core.Path.{sym}
use borrow.Author.Tests.{lt-ltb}
use Rattle.bits.specs.Bit.{put_bit}
use Rattle.bits.proofs.Laws.{shl_one, put_above}
use Rattle.bits.proofs.put.Goals as goal

pub returns-then-on : goal.returns-then-on
unfolding put_bit
returns-then-on c = simp (lt-ltb _ 64 c.if-e-lt64.true, c.if-on.true, shl_one 64 _ c.if-e-lt64.true)

pub returns-else-on : goal.returns-else-on
unfolding put_bit
returns-else-on c = simp (lt-ltb _ 64 c.if-e-lt64.true, c.if-on.false, shl_one 64 _ c.if-e-lt64.true)

pub returns-else-e-lt64 : goal.returns-else-e-lt64
returns-else-e-lt64 c = sym (put_above _ _ _ c.if-e-lt64.false)
