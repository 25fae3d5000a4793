use Rattle.std.proofs.Common.{sym, ◌∙◌}
use Rattle.length_input.proofs.Bytes.{first_digit, first_none}
use Rattle.length_input.proofs.first_byte.Goals as goal

pub returns-then-is_ascii_digit : goal.returns-then-is_ascii_digit
returns-then-is_ascii_digit c = first_digit c.args.b (sym c.is_ascii_digit.ensures.value ∙ c.if-is_ascii_digit.true) c.from.ensures

pub returns-else-is_ascii_digit : goal.returns-else-is_ascii_digit
returns-else-is_ascii_digit c = first_none c.args.b (sym c.is_ascii_digit.ensures.value ∙ c.if-is_ascii_digit.false)
