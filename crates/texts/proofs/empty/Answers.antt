use mathlib.Core.Path.{refl}
use Rattle.texts.specs.Text.{text_of}
use Rattle.texts.proofs.empty.Goals as goal

pub returns : goal.returns
unfolding text_of
returns c = refl
