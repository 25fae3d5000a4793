use Rattle.modules.proofs.Queue.{respond_taken, respond_full, respond_other}
use Rattle.modules.proofs.respond.Goals as goal

pub returns-then-own-lt8 : goal.returns-then-own-lt8
returns-then-own-lt8 c = search respond_taken

pub returns-else-own-lt8 : goal.returns-else-own-lt8
returns-else-own-lt8 c = search respond_full

pub returns-else-own_uncontrollable : goal.returns-else-own_uncontrollable
returns-else-own_uncontrollable c = search respond_other
