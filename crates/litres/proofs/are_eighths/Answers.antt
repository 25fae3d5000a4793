use native.Mathlib.Omega.{arith}
use Rattle.bits.proofs.Laws.{shl_one}
use Rattle.litres.proofs.Patterns.{none_by, low_by, middle_by, last_by}
use Rattle.litres.proofs.are_eighths.Goals as goal

pub returns-then-e-eq0 : goal.returns-then-e-eq0
returns-then-e-eq0 c = none_by c.args.b c.if-e-eq0.true

pub returns-then-e-lt1020 : goal.returns-then-e-lt1020
returns-then-e-lt1020 c = low_by c.args.b c.if-e-eq0.false c.if-e-lt1020.true

pub returns-then-e-lt1072 : goal.returns-then-e-lt1072
returns-then-e-lt1072 c = middle_by c.args.b c.if-e-eq0.false c.if-e-lt1072.true (shl_one 64 _ (omega arith))

pub returns : goal.returns
returns c = last_by c.args.b c.if-e-eq0.false c.if-e-lt1072.false
