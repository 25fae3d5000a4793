use Rattle.masks.proofs.Events.{second_asked, second_spared}
use Rattle.masks.proofs.is_command.Goals as goal

pub returns-then-has : goal.returns-then-has
returns-then-has c = search second_asked

pub returns-else-has : goal.returns-else-has
returns-else-has c = search second_spared
