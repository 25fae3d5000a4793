use native.Mathlib.Nat.{le_refl}
use native.Mathlib.Omega.{arith}
use Rattle.texts.specs.Ascii.{ascii}
use Rattle.script.specs.SimulationLines.{nothing_line}
use Rattle.texts.proofs.Texts.{so_word}
use Rattle.script.proofs.nothing_line.Goals as goal

pub returns : goal.returns
unfolding ascii nothing_line
returns c = (so_word (ascii "nothing\n") 8 (le_refl 8) (omega arith) c.word.ensures).is
