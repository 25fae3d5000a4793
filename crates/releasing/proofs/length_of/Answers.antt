use native.Mathlib.Omega.{arith}
use lib.Count.{ones-le}
use borrow.Author.Rules.{rules}
use Rattle.releasing.proofs.length_of.Goals as goal

pub overflow_cast-result : goal.overflow_cast-result
overflow_cast-result c = omega (arith, ones-le 32 c.args.mask (search rules))

pub overflow_mul-result : goal.overflow_mul-result
overflow_mul-result c = omega (arith, ones-le 32 c.args.mask (search rules))
