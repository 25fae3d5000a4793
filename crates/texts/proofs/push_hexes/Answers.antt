use Rattle.std.proofs.Common.{◌∙◌, sym, ap, take_all, get_or}
use Rattle.std.specs.List.{fold}
use Rattle.std.proofs.lemmas.List.Sums.{fold_more}
use Rattle.texts.specs.Digits.{hex_digits}
use Rattle.texts.specs.Text.{appended}
use Rattle.texts.proofs.Texts.{two_digits, hexed}
use Rattle.texts.proofs.push_hexes.Goals as goal

pub loop-b-preserved : goal.loop-b-preserved
loop-b-preserved c =
    let b = get_or c.args.s.now c.loop-b.b-index 0 in
    two_digits c.loop-b.next b c.hex_digit.ensures c.push.ensures c.hex_digit-in-loop-b.ensures c.push-next.ensures
    ∙ ap (λ u. appended u (hex_digits 2 b)) c.loop-b.invariant
    ∙ sym (fold_more (λ u n. appended u (hex_digits 2 n)) c.args.t c.args.s.now c.loop-b.b-index 0 c.loop-b-test.true)

pub returns : goal.returns
returns c = c.loop-b.invariant ∙ ap (fold (λ u b. appended u (hex_digits 2 b)) c.args.t) (take_all _ c.args.s.now c.loop-b-test.false) ∙ hexed c.args.t c.args.s.now
