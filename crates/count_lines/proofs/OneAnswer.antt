-- `OneAnswer`: a text and a buffer have one answer and one final contents of the buffer.
use Rattle.std.specs.Prelude.{Some}
use mathlib.Core.Path.{refl, sym, ap, ◌∙◌}
use native.Mathlib.Omega.{arith}
use Rattle.count_lines.specs.Lines.{short, printed, OneAnswer}

pub one_answer : OneAnswer
one_answer text b x y c d (short h) (short k) = (refl, refl)
one_answer text b x y c d (short h) (printed l e w) = absurd (omega arith)
one_answer text b x y c d (printed l e w) (short h) = absurd (omega arith)
one_answer text b x y c d (printed l e w) (printed m f v) = (ap Some (e ∙ sym f), w ∙ sym v)
