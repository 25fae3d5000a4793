use native.Mathlib.Omega.{arith}
use Rattle.records.proofs.Order.{ranks}
use Rattle.records.proofs.precedes.Goals as goal

pub returns : goal.returns
returns c =
    simp (c.rank.ensures, c.rank-2.ensures)
    (ranks c.args.p c.args.q (omega arith) (omega arith) (omega arith) (omega arith) (omega arith) (omega arith))
