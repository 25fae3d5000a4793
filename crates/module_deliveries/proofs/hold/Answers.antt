use native.Mathlib.Omega.{arith}
use borrow.Author.Tests.{lt-ltb}
use Rattle.bits.specs.Bit.{put_bit}
use Rattle.bits.proofs.Laws.{shl_one}
use Rattle.module_deliveries.proofs.hold.Goals as goal

pub returns : goal.returns
unfolding put_bit
returns c = simp (lt-ltb c.args.v 64 (omega arith), shl_one 32 c.args.v c.requires)
