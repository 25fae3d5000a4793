use mathlib.Core.Path.{refl}
use Rattle.frames.specs.Frame.{is_address}
use Rattle.frames.proofs.is_address.Goals as goal

pub returns : goal.returns
unfolding is_address
returns c = refl
