use Rattle.own_bytes.proofs.Reading.{is_short, is_window}
use Rattle.own_bytes.proofs.is_own.Goals as goal

pub returns-then-s-lt-OWN_SIZE : goal.returns-then-s-lt-OWN_SIZE
returns-then-s-lt-OWN_SIZE c = search is_short

pub returns : goal.returns
returns c = search is_window
