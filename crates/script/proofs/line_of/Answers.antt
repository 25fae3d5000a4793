use Rattle.script.proofs.Lines.{line_short, line_turn, line_response, line_other, line_unspaced}
use Rattle.script.proofs.line_of.Goals as goal

pub returns-then-s-lt2 : goal.returns-then-s-lt2
returns-then-s-lt2 c = search line_short

pub returns-in-116 : goal.returns-in-116
returns-in-116 c = search line_turn

pub returns-in-114 : goal.returns-in-114
returns-in-114 c = search line_response

pub returns-in_default : goal.returns-in_default
returns-in_default c = search line_other

pub returns-else-s-eq32 : goal.returns-else-s-eq32
returns-else-s-eq32 c = search line_unspaced
