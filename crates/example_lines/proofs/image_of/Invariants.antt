use Rattle.std.proofs.Common.{[], length, drop}
use Rattle.example_lines.specs.Image.{image_from, piece}
use Rattle.example_lines.proofs.Image.{Reading}
use Rattle.example_lines.proofs.image_of.Given as goal

abbrev pub invariant-loop-b : goal.invariant-loop-b
invariant-loop-b l = Reading l.initial.img (image_from (length l.initial.img) (piece []) l.word) l.img l.p (drop l.b-index l.word)
