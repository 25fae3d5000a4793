use Rattle.plan.proofs.Answers.{after_inside, after_outside}
use Rattle.plan.proofs.supervisor_after.Goals as goal

pub returns-then-in_alphabet : goal.returns-then-in_alphabet
returns-then-in_alphabet c = search after_inside

pub returns-else-in_alphabet : goal.returns-else-in_alphabet
returns-else-in_alphabet c = search after_outside
