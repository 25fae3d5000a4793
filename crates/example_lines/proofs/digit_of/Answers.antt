use Rattle.example_lines.proofs.Words.{digit_low, digit_decimal, digit_between, digit_letter, digit_high}
use Rattle.example_lines.proofs.digit_of.Goals as goal

pub returns-then-b-lt48 : goal.returns-then-b-lt48
returns-then-b-lt48 c = search digit_low

pub returns-then-b-le57 : goal.returns-then-b-le57
returns-then-b-le57 c = search digit_decimal

pub returns-then-b-lt65 : goal.returns-then-b-lt65
returns-then-b-lt65 c = search digit_between

pub returns-then-b-le70 : goal.returns-then-b-le70
returns-then-b-le70 c = search digit_letter

pub returns-else-b-le70 : goal.returns-else-b-le70
returns-else-b-le70 c = search digit_high
