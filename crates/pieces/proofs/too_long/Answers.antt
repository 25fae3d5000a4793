use mathlib.Core.Path.{ap, ◌∙◌}
use Rattle.context.specs.declared.Context.{Context}
use Rattle.pieces.specs.declared.Stage.TheVariants.{Open}
use Rattle.pieces.specs.Pieces.{between}
use Rattle.pieces.proofs.too_long.Goals as goal

pub returns : goal.returns
returns c = c.between.ensures ∙ ap (λ (d : Context). between d Open 49153) c.started.ensures
