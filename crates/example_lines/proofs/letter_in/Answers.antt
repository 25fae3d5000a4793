use Rattle.example_lines.proofs.Words.{letter_by}
use Rattle.example_lines.proofs.letter_in.Goals as goal

pub returns : goal.returns
returns c = search letter_by
