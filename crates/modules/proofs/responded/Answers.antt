use mathlib.Core.Path.{ap}
use native.Mathlib.Omega.{arith}
use Rattle.modules.specs.declared.Own.{Own}
use Rattle.modules.proofs.Ticks.{answer_full, answer_queued}
use Rattle.modules.proofs.responded.Goals as goal

pub advanced-requires : goal.advanced-requires
advanced-requires c = omega (arith, ap (λ (n : Own). n.procedure.index) c.with_response-after.ensures)

pub returns-then-own-ge8 : goal.returns-then-own-ge8
returns-then-own-ge8 c = search answer_full

pub returns-else-own-ge8 : goal.returns-else-own-ge8
returns-else-own-ge8 c = search answer_queued
