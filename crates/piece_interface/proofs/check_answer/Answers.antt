use Rattle.piece_interface.proofs.Laws.{answer_given, answer_none}
use Rattle.piece_interface.proofs.check_answer.Goals as goal

pub returns-then-is_state : goal.returns-then-is_state
returns-then-is_state c = search answer_given

pub returns : goal.returns
returns c = search answer_none
