use mathlib.Core.Path.{sym}
use native.Mathlib.Omega.{arith}
use lib.Seq.{length-take-le}
use Rattle.frames.proofs.Frame.{too_short, intact_by}
use Rattle.frames.proofs.is_intact.Goals as goal

pub returns-then-frame-lt2 : goal.returns-then-frame-lt2
returns-then-frame-lt2 c = search too_short

pub slice_bounds-of-end : goal.slice_bounds-of-end
slice_bounds-of-end c = sym (length-take-le _ _ (omega arith))

pub returns : goal.returns
returns c = search intact_by
