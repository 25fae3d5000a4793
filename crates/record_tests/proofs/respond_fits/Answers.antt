use native.Mathlib.Nat.{mod-eq_of_lt}
use native.Mathlib.Omega.{arith}
use borrow.Author.Tests.{lt-ltb, le-ltb}
use Rattle.record_tests.proofs.respond_fits.Goals as goal

pub returns-then-x-lt64 : goal.returns-then-x-lt64
returns-then-x-lt64 c = simp (lt-ltb _ 64 c.if-x-lt64.true, c.has.ensures, c.has-then-x-lt64.ensures, mod-eq_of_lt {n = c.args.x} {m = 256} (omega arith))

pub returns-else-x-lt64 : goal.returns-else-x-lt64
returns-else-x-lt64 c = simp (le-ltb _ 64 c.if-x-lt64.false)
