use native.Mathlib.Nat.{mod-eq_of_lt}
use native.Mathlib.Omega.{arith}
use borrow.Author.Tests.{lt-ltb, le-ltb}
use Rattle.judge.proofs.respond_kept.Goals as goal

pub returns-then-operand-lt64 : goal.returns-then-operand-lt64
returns-then-operand-lt64 c = simp (lt-ltb _ 64 c.if-operand-lt64.true, c.has.ensures, c.owner_of.ensures, c.owner_of-then-operand-lt64.ensures, mod-eq_of_lt {n = c.args.operand} {m = 256} (omega arith))

pub returns-else-operand-lt64 : goal.returns-else-operand-lt64
returns-else-operand-lt64 c = simp (le-ltb _ 64 c.if-operand-lt64.false)
