use Rattle.turns.proofs.Turns.{turn_stands, turn_responds, turn_runs, turn_chooses}
use Rattle.turns.proofs.turn.Goals as goal

pub returns-then-own-p : goal.returns-then-own-p
returns-then-own-p c = search turn_stands

pub returns-in-Some : goal.returns-in-Some
returns-in-Some c = search turn_responds

pub returns-then-p : goal.returns-then-p
returns-then-p c = search turn_runs

pub returns-else-p : goal.returns-else-p
returns-else-p c = search turn_chooses
