use Rattle.std.proofs.Common.{◌∙◌, ap, take_all}
use Rattle.std.specs.List.{fold}
use Rattle.length_input.specs.Input.{with_byte}
use Rattle.length_input.proofs.Taking.{piece}
use Rattle.length_input.proofs.with_bytes.Goals as goal

pub returns : goal.returns
returns c = c.loop-b.invariant ∙ ap (fold with_byte c.args.i) (take_all _ c.args.s.now c.loop-b-test.false) ∙ piece c.args.i c.args.s.now
