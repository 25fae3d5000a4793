use Rattle.lines.proofs.Numbers.{number_none, number_alone, number_zero, number_more}
use Rattle.lines.proofs.number_up_to.Goals as goal

pub returns-then-s-eq0 : goal.returns-then-s-eq0
returns-then-s-eq0 c = search number_none

pub returns-then-s-eq1 : goal.returns-then-s-eq1
returns-then-s-eq1 c = search number_alone

pub returns-then-s-eq48 : goal.returns-then-s-eq48
returns-then-s-eq48 c = search number_zero

pub returns-else-s-eq48 : goal.returns-else-s-eq48
returns-else-s-eq48 c = search number_more
