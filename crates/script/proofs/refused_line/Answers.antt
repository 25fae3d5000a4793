use Rattle.texts.specs.Ascii.{ascii}
use Rattle.script.specs.Answers.{refused_line}
use Rattle.script.proofs.refused_line.Goals as goal

pub returns : goal.returns
unfolding ascii refused_line
returns c = c.short_line.ensures
