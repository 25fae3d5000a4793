use Rattle.piece_bytes.proofs.Reading.{is_open, is_ended, is_faulty}
use Rattle.piece_bytes.proofs.stage_of.Goals as goal

pub returns-then-x-eq0 : goal.returns-then-x-eq0
returns-then-x-eq0 c = search is_open

pub returns-then-x-eq1 : goal.returns-then-x-eq1
returns-then-x-eq1 c = search is_ended

pub returns : goal.returns
returns c = search is_faulty
