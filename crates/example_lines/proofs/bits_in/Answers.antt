use Rattle.example_lines.proofs.Words.{number_by}
use Rattle.example_lines.proofs.bits_in.Goals as goal

pub returns : goal.returns
returns c = search number_by
