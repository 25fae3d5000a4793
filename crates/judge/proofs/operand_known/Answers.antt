use mathlib.Core.Path.{◌∙◌}
use native.Mathlib.Nat.{mod-eq_of_lt}
use native.Mathlib.Omega.{arith}
use borrow.Author.Tests.{lt-ltb, le-ltb}
use Rattle.judge.proofs.operand_known.Goals as goal

pub returns-then-x-lt64 : goal.returns-then-x-lt64
returns-then-x-lt64 c = c.event_known.ensures ∙ simp (mod-eq_of_lt {n = c.args.x} {m = 256} (omega arith), lt-ltb _ 64 c.if-x-lt64.true)

pub returns-else-x-lt64 : goal.returns-else-x-lt64
returns-else-x-lt64 c = simp (le-ltb _ 64 c.if-x-lt64.false)
