use Rattle.modules.proofs.Queue.{one_less, none_less, seven_left, eight_left}
use Rattle.modules.proofs.count_without.Goals as goal

pub returns-then-k-n : goal.returns-then-k-n
returns-then-k-n c = search one_less

pub returns-else-k-n : goal.returns-else-k-n
returns-else-k-n c = search none_less

pub returns-then-k-lt8 : goal.returns-then-k-lt8
returns-then-k-lt8 c = search seven_left

pub returns-else-k-lt8 : goal.returns-else-k-lt8
returns-else-k-lt8 c = search eight_left
