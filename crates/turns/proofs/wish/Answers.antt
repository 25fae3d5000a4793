use Rattle.turns.proofs.Turns.{wish_stands, wish_usable, wish_runs, wish_commands}
use Rattle.turns.proofs.wish.Goals as goal

pub returns-then-n-p : goal.returns-then-n-p
returns-then-n-p c = search wish_stands

pub returns-in-Some : goal.returns-in-Some
returns-in-Some c = search wish_usable

pub returns-then-p : goal.returns-then-p
returns-then-p c = search wish_runs

pub returns-else-p : goal.returns-else-p
returns-else-p c = search wish_commands
