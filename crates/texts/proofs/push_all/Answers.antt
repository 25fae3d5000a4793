use Rattle.std.proofs.Common.{◌∙◌, ap, take_all}
use Rattle.std.specs.List.{fold}
use Rattle.texts.specs.Text.{pushed}
use Rattle.texts.proofs.Texts.{pushed_all}
use Rattle.texts.proofs.push_all.Goals as goal

pub returns : goal.returns
returns c = c.loop-b.invariant ∙ ap (fold pushed c.args.t) (take_all _ c.args.s.now c.loop-b-test.false) ∙ pushed_all c.args.t c.args.s.now
