use Rattle.std.proofs.Common.{sym, ◌∙◌, arith}
use Rattle.lines.proofs.Numbers.{digits_other, digits_over, digits_again, digits_done}
use Rattle.lines.proofs.digits_of.Goals as goal

pub returns-then-not-is_ascii_digit : goal.returns-then-not-is_ascii_digit
returns-then-not-is_ascii_digit c =
    let l = c.loop-b in
    digits_other c.args.limit c.args.s.now l.b-index l.n c.loop-b-test.true l.invariant.1 (sym c.is_ascii_digit.ensures.value ∙ c.if-not-is_ascii_digit.true)

pub returns-then-most-n : goal.returns-then-most-n
returns-then-most-n c =
    let l = c.loop-b in
    digits_over c.args.limit c.args.s.now l.b-index l.n c.loop-b-test.true l.invariant.1 (sym c.is_ascii_digit.ensures.value ∙ c.if-not-is_ascii_digit.false) c.from.result c.from.ensures (omega arith)

pub loop-b-preserved : goal.loop-b-preserved
loop-b-preserved c =
    let l = c.loop-b in
    (omega arith, digits_again c.args.limit c.args.s.now l.b-index l.n c.loop-b-test.true l.invariant.1 (sym c.is_ascii_digit.ensures.value ∙ c.if-not-is_ascii_digit.false) c.from.result c.from.ensures)

pub returns : goal.returns
returns c =
    let l = c.loop-b in
    digits_done c.args.limit c.args.s.now l.b-index l.n c.loop-b-test.false l.invariant.0 l.invariant.1
