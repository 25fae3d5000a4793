use native.Mathlib.Nat.{sub-zero}
use native.Mathlib.Omega.{arith}
use borrow.Author.Rules.{rules}
use Rattle.places.proofs.Halving.{turned, turns_up, turns_down}
use Rattle.places.proofs.halve.Goals as goal

pub loop-lo-init : goal.loop-lo-init
loop-lo-init c = (omega arith, omega arith, rw sub-zero)

pub loop-lo-preserved-then-precedes_at : goal.loop-lo-preserved-then-precedes_at
loop-lo-preserved-then-precedes_at c = (omega arith, search rules, search turns_up)

pub loop-lo-preserved : goal.loop-lo-preserved
loop-lo-preserved c = (omega arith, search rules, search turns_down)

pub returns : goal.returns
returns c = (search turned, omega arith)
