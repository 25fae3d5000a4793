use Rattle.example_lines.proofs.Image.{raise_third, raise_short, raise_other}
use Rattle.example_lines.proofs.raise.Goals as goal

pub returns-then-end-at-gt2 : goal.returns-then-end-at-gt2
returns-then-end-at-gt2 c = search raise_third

pub returns-else-end-at-gt2 : goal.returns-else-end-at-gt2
returns-else-end-at-gt2 c = search raise_short

pub returns-else-sign-eq94 : goal.returns-else-sign-eq94
returns-else-sign-eq94 c = search raise_other
