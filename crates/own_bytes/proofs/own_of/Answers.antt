use Rattle.own_bytes.proofs.Reading.{own_short, own_window}
use Rattle.own_bytes.proofs.own_of.Goals as goal

pub returns-then-s-lt-OWN_SIZE : goal.returns-then-s-lt-OWN_SIZE
returns-then-s-lt-OWN_SIZE c = search own_short

pub returns : goal.returns
returns c = search own_window
