use Rattle.std.proofs.Common.{sym, ◌∙◌}
use borrow.Author.Rules.{rules}
use Rattle.length_input.proofs.Bytes.{next_feed, next_zero, next_none, next_digit}
use Rattle.length_input.proofs.next_byte.Goals as goal

pub returns-then-b-eq10 : goal.returns-then-b-eq10
returns-then-b-eq10 c = search (next_feed, rules)

pub returns-then-n-eq0 : goal.returns-then-n-eq0
returns-then-n-eq0 c = search (next_zero, rules)

pub returns-then-is_ascii_digit : goal.returns-then-is_ascii_digit
returns-then-is_ascii_digit c =
    next_digit c.args.b c.args.n c.if-b-eq10.false c.if-n-eq0.false (sym c.is_ascii_digit.ensures.value ∙ c.if-is_ascii_digit.true) c.from.ensures c.with_digit.ensures

pub returns-else-is_ascii_digit : goal.returns-else-is_ascii_digit
returns-else-is_ascii_digit c = next_none c.args.b c.args.n c.if-b-eq10.false c.if-n-eq0.false (sym c.is_ascii_digit.ensures.value ∙ c.if-is_ascii_digit.false)
