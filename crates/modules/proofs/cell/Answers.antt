use Rattle.modules.proofs.Queue.{at_cell, past_cells, past_responses}
use Rattle.modules.proofs.cell.Goals as goal

pub returns-then-i-lt8 : goal.returns-then-i-lt8
returns-then-i-lt8 c = search at_cell

pub returns-else-i-lt8 : goal.returns-else-i-lt8
returns-else-i-lt8 c = search past_cells

pub returns-else-i-wide : goal.returns-else-i-wide
returns-else-i-wide c = search past_responses
