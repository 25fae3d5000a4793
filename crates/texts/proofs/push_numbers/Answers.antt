use Rattle.std.proofs.Common.{◌∙◌, ap, take_all}
use Rattle.std.specs.List.{fold}
use Rattle.texts.specs.Numbers.{spaced}
use Rattle.texts.specs.Text.{appended}
use Rattle.texts.proofs.Texts.{listed}
use Rattle.texts.proofs.push_numbers.Goals as goal

pub returns : goal.returns
returns c = c.loop-n.invariant ∙ ap (fold (λ u n. appended u (spaced n)) c.args.t) (take_all _ c.args.s.now c.loop-n-test.false) ∙ listed c.args.t c.args.s.now
