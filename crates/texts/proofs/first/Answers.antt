use mathlib.Core.Path.{sym}
use native.Mathlib.Omega.{arith}
use lib.Seq.{length-take-le, take_all}
use Rattle.texts.proofs.first.Goals as goal

pub slice_bounds-result-end : goal.slice_bounds-result-end
slice_bounds-result-end c = sym (length-take-le _ _ (omega arith))

pub returns-else-n-bytes : goal.returns-else-n-bytes
returns-else-n-bytes c = sym (take_all _ _ c.if-n-bytes.false)
