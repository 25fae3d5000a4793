use Rattle.turns.proofs.Turns.{chose_none, chose_stuck, chose}
use Rattle.turns.proofs.by_choice.Goals as goal

pub returns-in_default : goal.returns-in_default
returns-in_default c = search chose_none

pub returns-in_default-module_move : goal.returns-in_default-module_move
returns-in_default-module_move c = search chose_stuck

pub returns : goal.returns
returns c = search chose
